-- A transaction whose touched tables weren't changed is after a later run what it was: it can go on there, touch, write and commit.
use Rattle.std.proofs.Common.{◌≡◌, ℕ, ◌≤◌, Bool, true, false, cond, ◌||◌, ◌==◌, List, [], ◌∷◌, ◌++◌, length, get_or, refl, sym, ap, ◌∙◌, subst, arith, length-append}
use Rattle.std.specs.List.{AllByRecursion, list_any}
use Rattle.std.proofs.lemmas.Bool.{false≢true, eqb-true, eq-eqb}
use Rattle.std.proofs.lemmas.List.Folds.{list_any-append}
use mathlib.Core.List.{IsPrefix}
use Rattle.vt_value.specs.Values.{Row}
use Rattle.vschema.specs.declared.schema.Place.{Place}
use Rattle.vschema.specs.declared.schema.Query.{Query}
use Rattle.vschema.specs.declared.schema.VSchema.{VSchema}
use Rattle.vschema.specs.declared.changes.Write.{Write}
use Rattle.vschema.specs.declared.changes.RowChange.{RowChange}
use Rattle.vschema.specs.Schema.{no_table}
use Rattle.vschema.specs.Database.{Database, rows_of, all_applied}
use Rattle.vschema.specs.Sources.{source_tables}
use Rattle.vschema.specs.TypedWrites.{IsTypedWrite}
use Rattle.shard_contents.specs.Writes.{written_table, changes_over}
use Rattle.journal.specs.Runs.{IsLegal, NumbersBelow}
use Rattle.journal.specs.Views.{PassView}
use Rattle.journal.proofs.Fronts.{prefix_trans}
use Rattle.shard_run.specs.declared.ShardRecord.{ShardRecord}
use Rattle.shard_run.specs.declared.Mode.TheVariants.{Following, Serving}
use Rattle.shard_run.specs.declared.Entry.{Entry}
use Rattle.shard_run.specs.Runs.{Run, Opening, shard_rows, first_rows, mode, stored_on}
use Rattle.shard_contents.specs.Legal.{IsOnItsSlot, IsChangeOf, AreChangesOf}
use Rattle.shard_run.specs.Openings.{IsOpening}
use Rattle.shard_contents.proofs.Databases.{length-all_applied}
use Rattle.shard_contents.proofs.Lists.{AllByRecursion-push, all-weaker}
use Rattle.shard_contents.proofs.Runs.{log}
use Rattle.shard_contents.specs.declared.touched_table.Touch.{Touch}
use Rattle.shard_contents.specs.Entries.{MayFollow, commit_of}
use Rattle.shard_contents.specs.Commits.{IsPlaced}
use Rattle.shard_contents.specs.Transactions.{PendingView, nothing_done, is_changed, is_conflict, is_touched, touched_with, touched_all, IsClear, IsTouchBy, IsPending, IsPendingOf, HasReadIn, HasWrittenIn, entry_of}
use Rattle.shard.proofs.Conflicts.{same_rows, stored_is}
use Rattle.shard.proofs.Inside.{snoc}
use Rattle.shard_contents.proofs.OneTable.{no_or, same_after}
use Rattle.shard.proofs.Pendings.{may_all}

module _ (touched : List Touch) (t : Touch) where
  -- what was touched stays so
  pub still_touched : (n : ℕ) → is_touched touched n ≡ true → is_touched (touched_with touched t) n ≡ true
  still_touched n h = by (is_touched touched t.table)
    where
      by : (b : Bool) → is_touched (cond b touched (touched ++ t ∷ [])) n ≡ true
      by true = h
      by false =
          list_any-append (λ x. x.table == n) touched (t ∷ []) ∙ ap (λ b. b || list_any (λ (x : Touch). x.table == n) (t ∷ [])) h

  pub now_touched : is_touched (touched_with touched t) t.table ≡ true
  now_touched = by (is_touched touched t.table) refl
    where
      or_last : (a b : Bool) → b ≡ true → (a || b) ≡ true
      or_last true b e = refl
      or_last false b e = e

      by : (b : Bool) → is_touched touched t.table ≡ b → is_touched (cond b touched (touched ++ t ∷ [])) t.table ≡ true
      by true e = e
      by false e =
          let self : (t.table == t.table) ≡ true = eq-eqb t.table t.table refl in
          let one : list_any (λ (x : Touch). x.table == t.table) (t ∷ []) ≡ true = simp self in
          list_any-append (λ x. x.table == t.table) touched (t ∷ [])
          ∙ or_last (list_any (λ (x : Touch). x.table == t.table) touched) (list_any (λ (x : Touch). x.table == t.table) (t ∷ [])) one

  pub all_touched : (P : Touch → Type 0) → AllByRecursion P touched → P t → AllByRecursion P (touched_with touched t)
  all_touched P all here = by (is_touched touched t.table)
    where
      by : (b : Bool) → AllByRecursion P (cond b touched (touched ++ t ∷ []))
      by true = all
      by false = AllByRecursion-push P touched t all here

-- several tables that are touched at once
abbrev pub touch_of : ℕ → ℕ → Touch
touch_of stored n = record { table = n; stored = stored }

pub still_touched_all : (touched : List Touch) (ns : List ℕ) (stored n : ℕ) → is_touched touched n ≡ true → is_touched (touched_all touched ns stored) n ≡ true
still_touched_all touched [] stored n h = h
still_touched_all touched (m ∷ ns) stored n h =
    still_touched_all (touched_with touched (touch_of stored m)) ns stored n (still_touched touched (touch_of stored m) n h)

pub now_touched_all : (touched : List Touch) (ns : List ℕ) (stored : ℕ) → AllByRecursion (λ n. is_touched (touched_all touched ns stored) n ≡ true) ns
now_touched_all touched [] stored = tt
now_touched_all touched (m ∷ ns) stored = (
  still_touched_all (touched_with touched (touch_of stored m)) ns stored m (now_touched touched (touch_of stored m)),
  now_touched_all (touched_with touched (touch_of stored m)) ns stored,
)

pub all_touched_all : (P : Touch → Type 0) (touched : List Touch) (ns : List ℕ) (stored : ℕ) → AllByRecursion P touched
    → AllByRecursion (λ n. P (touch_of stored n)) ns → AllByRecursion P (touched_all touched ns stored)
all_touched_all P touched [] stored all here = all
all_touched_all P touched (m ∷ ns) stored all here =
    all_touched_all P (touched_with touched (touch_of stored m)) ns stored (all_touched touched (touch_of stored m) P all here.0) here.1

-- the same changes over databases that agree on touched tables
pub changes_agree : (schema : VSchema) (touched : List Touch) (a b : Database) → length a ≡ length b
    → ((n : ℕ) → is_touched touched n ≡ true → rows_of a n ≡ rows_of b n) → (writes : List Write) (changes : List RowChange)
    → AllByRecursion (λ w. is_touched touched (written_table w) ≡ true) writes → AreChangesOf schema writes a changes → AreChangesOf schema writes b changes
changes_agree schema touched a b long same [] changes on are = are
changes_agree schema touched a b long same (w ∷ writes) changes on (first, rest, split, (exact, is, of), are) =
    let n = written_table w in (
      first,
      rest,
      split,
      (exact, ap (changes_over (get_or schema.tables n no_table) w) (sym (same n on.0)) ∙ is, of),
      changes_agree schema touched (all_applied first a) (all_applied first b) (length-all_applied first a ∙ long ∙ sym (length-all_applied first b))
          (λ m h. same_after first a b m long (same m h)) writes rest on.1 are,
    )

-- a touch of a table after which no entry has changed it
record Touched (o : Opening) (s : ShardRecord) (old : Run) (stored : List Entry) (n : ℕ) : Type 0 where
  touch : Touch
  at : touch.table ≡ n
  is : IsTouchBy o s old touch
  clear : is_changed stored touch ≡ false

find : (o : Opening) (s : ShardRecord) (old : Run) (stored : List Entry) (touched : List Touch) → AllByRecursion (IsTouchBy o s old) touched
    → is_conflict stored touched ≡ false → (n : ℕ) → is_touched touched n ≡ true → Touched o s old stored n
find o s old stored [] all clear n h = absurd (false≢true h)
find o s old stored (t ∷ touched) all clear n h =
    let c = no_or (is_changed stored t) (is_conflict stored touched) clear in
    by (t.table == n) refl h (find o s old stored touched all.1 c.1 n)
  where
    by : (b : Bool) → (t.table == n) ≡ b → (b || is_touched touched n) ≡ true → (is_touched touched n ≡ true → Touched o s old stored n)
        → Touched o s old stored n
    by true e h rest =
        record { touch = t; at = eqb-true t.table n e; is = all.0; clear = (no_or (is_changed stored t) (is_conflict stored touched) clear).0 }
    by false e h rest = rest h

module _ (o : Opening) (s : ShardRecord) where
  -- as many tables after each run
  pub held-long : (a b : Run) → length (shard_rows o a s) ≡ length (shard_rows o b s)
  held-long a b = length-all_applied (log s.slot a) (first_rows o s) ∙ sym (length-all_applied (log s.slot b) (first_rows o s))

  module _ (old new : Run) (later : IsPrefix old new) (legal : IsLegal (MayFollow o) new) (touched : List Touch) (touches : AllByRecursion (IsTouchBy o s old) touched)
      (clear : is_conflict (stored_on s.slot new) touched ≡ false) where
    -- the rows of a touched table are those of the earlier run
    pub rows_stay : (n : ℕ) → is_touched touched n ≡ true → rows_of (shard_rows o new s) n ≡ rows_of (shard_rows o old s) n
    rows_stay n h =
        let f = find o s old (stored_on s.slot new) touched touches clear n h in
        let past : mode o old s.slot ≡ Following → ⊥ = λ e. let i = f.is.serving in absurd (cc (i, e)) in
        subst (λ k. rows_of (shard_rows o new s) k ≡ rows_of (shard_rows o old s) k) f.at (same_rows o s old new later legal past f.touch f.is.stored f.clear)

    -- and after the transaction's own changes
    pub rows_after_stay : (changes : List RowChange) (n : ℕ) → is_touched touched n ≡ true
        → rows_of (all_applied changes (shard_rows o new s)) n ≡ rows_of (all_applied changes (shard_rows o old s)) n
    rows_after_stay changes n h = same_after changes (shard_rows o new s) (shard_rows o old s) n (held-long new old) (rows_stay n h)

    pub touches_later : mode o new s.slot ≡ Serving → AllByRecursion (IsTouchBy o s new) touched
    touches_later serving =
        all-weaker (IsTouchBy o s old) (IsTouchBy o s new)
        (λ t h. record {
          serving = serving;
          stored =
              let low = h.stored in
              let e = ap length (stored_is o s old new later) in
              let k = length-append (stored_on s.slot old) (stored_on s.slot later.0) in
              omega (arith, low, e, k);
        })
        touched touches

  -- The transaction after a later run, after which no touched table was changed.
  pub pending_later : (old new : Run) (tx : PendingView) → IsPending o s old tx → IsPrefix old new → IsLegal (MayFollow o) new → IsClear o s new tx
      → IsPending o s new tx
  pending_later old new tx is later legal clear = record {
    legal = legal;
    made =
        changes_agree o.schema tx.touched (shard_rows o old s) (shard_rows o new s) (held-long old new)
        (λ n h. sym (rows_stay old new later legal tx.touched is.touches clear.unchanged n h)) tx.writes tx.changes is.touched is.made;
    typed = is.typed;
    placed = is.placed;
    touched = is.touched;
    touches = touches_later old new later legal tx.touched is.touches clear.unchanged clear.serving;
  }

  pub pending_touches : (run : Run) (tx : PendingView) (t : Touch) → IsPending o s run tx → IsTouchBy o s run t
      → IsPending o s run (record tx { touched = touched_with tx.touched t })
  pending_touches run tx t is touch = record {
    legal = is.legal;
    made = is.made;
    typed = is.typed;
    placed = is.placed;
    touched =
        all-weaker (λ w. is_touched tx.touched (written_table w) ≡ true) (λ w. is_touched (touched_with tx.touched t) (written_table w) ≡ true)
        (λ w h. still_touched tx.touched t (written_table w) h) tx.writes is.touched;
    touches = all_touched tx.touched t (IsTouchBy o s run) is.touches touch;
  }

  pub pending_touches_all : (run : Run) (tx : PendingView) (ns : List ℕ) (stored : ℕ) → IsPending o s run tx
      → AllByRecursion (λ n. IsTouchBy o s run (touch_of stored n)) ns → IsPending o s run (record tx { touched = touched_all tx.touched ns stored })
  pending_touches_all run tx [] stored is all = is
  pending_touches_all run tx (n ∷ ns) stored is all =
      pending_touches_all run (record tx { touched = touched_with tx.touched (touch_of stored n) }) ns stored (pending_touches run tx (touch_of stored n) is all.0) all.1

  pub pending_writes : (run : Run) (tx : PendingView) (t : Touch) (w : Write) (more : List RowChange) → IsPending o s run tx
      → t.table ≡ written_table w → IsTouchBy o s run t → IsTypedWrite o.schema w → IsPlaced o.schema s.place w
      → IsChangeOf o.schema w (all_applied tx.changes (shard_rows o run s)) more
      → IsPending o s run (record { touched = touched_with tx.touched t; writes = tx.writes ++ w ∷ []; changes = tx.changes ++ more })
  pending_writes run tx t w more is at touch typed placed changed =
      let p = pending_touches run tx t is touch in
      record {
        legal = is.legal;
        made = snoc o.schema tx.writes w (shard_rows o run s) tx.changes more is.made changed;
        typed = AllByRecursion-push (IsTypedWrite o.schema) tx.writes w is.typed typed;
        placed = AllByRecursion-push (IsPlaced o.schema s.place) tx.writes w is.placed placed;
        touched =
            AllByRecursion-push (λ w. is_touched (touched_with tx.touched t) (written_table w) ≡ true) tx.writes w p.touched
            (subst (λ n. is_touched (touched_with tx.touched t) n ≡ true) at (now_touched tx.touched t));
        touches = p.touches;
      }

  pub pending_nothing : (run : Run) → IsLegal (MayFollow o) run → IsPending o s run nothing_done
  pending_nothing run legal = record { legal = legal; made = refl; typed = tt; placed = tt; touched = tt; touches = tt }

  -- its entry may come next
  pub pending_may : IsOpening o → (run : Run) (tx : PendingView) → IsPending o s run tx → IsOnItsSlot o run s → mode o run s.slot ≡ Serving
      → (session number : ℕ) → NumbersBelow commit_of session number run → MayFollow o run (entry_of s session number tx.writes tx.changes)
  pending_may opens run tx is stands serves session number low =
      may_all o opens s run stands is.legal serves session number low tx.writes tx.changes is.made is.typed is.placed

-- What a transaction is after a query, and after a write.
module _ (o : Opening) (s : ShardRecord) (p : PassView Entry) (now : Run) (tx new : PendingView) (tied : IsPendingOf o s tx p) (later : IsPrefix p.seen now)
    (legal : IsLegal (MayFollow o) now) where
  here : IsClear o s now tx → IsPending o s now tx
  here clear = pending_later o s tied.0 now tx tied.2 (prefix_trans tied.0 p.seen now tied.1 later) legal clear

  abbrev touch_at : ℕ → Touch
  touch_at n = record { table = n; stored = length (stored_on s.slot now) }

  is_touch : IsClear o s now tx → (n : ℕ) → IsTouchBy o s now (touch_at n)
  is_touch clear n = record { serving = clear.serving; stored = omega arith }

  are_touches : IsClear o s now tx → (ns : List ℕ) → AllByRecursion (λ n. IsTouchBy o s now (touch_at n)) ns
  are_touches clear [] = tt
  are_touches clear (n ∷ ns) = (is_touch clear n, are_touches clear ns)

  pub pending_read : (q : Query) (rows : List Row) (entries : ℕ) → HasReadIn o s tx now q rows entries new → IsPending o s now new
  pending_read q rows entries has =
      subst (IsPending o s now) (sym has.touch) (pending_touches_all o s now tx (source_tables q) (length (stored_on s.slot now)) (here has.clear) (are_touches has.clear (source_tables q)))

  pub pending_written : (w : Write) (count : ℕ) → HasWrittenIn o s tx now w count new → IsTypedWrite o.schema w → IsPlaced o.schema s.place w
      → IsPending o s now new
  pending_written w count has typed placed =
      subst (IsPending o s now) (sym has.kept)
      (pending_writes o s now tx (touch_at (written_table w)) w has.changes (here has.clear) refl (is_touch has.clear (written_table w)) typed placed has.changed)

-- slot and place alone matter
pub pending_same : (o : Opening) (s t : ShardRecord) (run : Run) (tx : PendingView) → s.slot ≡ t.slot → s.place ≡ t.place → IsPending o s run tx → IsPending o t run tx
pending_same o s t run tx slot place is =
    let rows : shard_rows o run s ≡ shard_rows o run t =
    ap (λ (i : ℕ). shard_rows o run (record s { slot = i })) slot ∙ ap (λ (p : Place). shard_rows o run (record s { slot = t.slot; place = p })) place in
    record {
      legal = is.legal;
      made = subst (λ (db : Database). AreChangesOf o.schema tx.writes db tx.changes) rows is.made;
      typed = is.typed;
      placed = subst (λ (p : Place). AllByRecursion (IsPlaced o.schema p) tx.writes) place is.placed;
      touched = is.touched;
      touches =
          all-weaker (IsTouchBy o s run) (IsTouchBy o t run)
          (λ x h. record {
            serving = ap (mode o run) (sym slot) ∙ h.serving;
            stored = subst (λ (i : ℕ). x.stored ≤ length (stored_on i run)) slot h.stored;
          })
          tx.touched is.touches;
    }
