-- Copying: what a state tells of how far a target has come, what a source has for it, and what a Copy leaves.
use Rattle.std.proofs.Common.{flat_map, ◌≡◌, ◌⊎◌, inl, inr, ℕ, zero, suc, ◌+◌, ◌-◌, ◌<◌, ◌≤◌, ◌^◌, Bool, true, false, not, ◌&&◌, ◌||◌, ◌==◌, List, [], ◌∷◌, ◌++◌, length, map, take, filter, get_or, Option, Some, None, IsTrue, refl, sym, ap, ◌∙◌, subst, arith, length-append}
use Rattle.std.specs.Prelude.{IsPermutation, AllPairs, if◌then◌else◌, slice_get}
use Rattle.std.specs.List.{AllByRecursion}
use Rattle.std.proofs.Math.Bool.{or-false}
use Rattle.std.proofs.lemmas.Bool.{false≢true, eq-eqb}
use Rattle.std.proofs.lemmas.List.{append-nil, take_more}
use Rattle.std.proofs.lemmas.List.Elements.{filter-append, filter_agree}
use Rattle.std.proofs.lemmas.List.Sorted.{IsPermutation-sym, IsPermutation-trans}
use mathlib.Core.List.{IsPrefix}
use Rattle.vt_value.specs.Values.{Row}
use Rattle.vschema.specs.declared.schema.Table.{Table}
use Rattle.vschema.specs.declared.schema.VSchema.{VSchema}
use Rattle.vschema.specs.declared.schema.Place.{Place}
use Rattle.vschema.specs.declared.changes.RowChange.{RowChange}
use Rattle.vschema.specs.declared.changes.RowChange.TheVariants.{Added}
use Rattle.vschema.specs.Schema.{key_of, no_table}
use Rattle.vschema.specs.Database.{Database, SameRows, rows_of, same_row, lies_in, all_applied, changed_table}
use Rattle.vschema.specs.WellFormed.{is_vschema}
use Rattle.shard_store.proofs.ChangeLemmas.{rows-same}
use Rattle.shard_store.proofs.Permutations.{IsPermutation-filter}
use Rattle.shard_law.specs.Runs.{on_slot}
use Rattle.shard_law.specs.Views.{SeatView, PassView, IsLater}
use Rattle.shard_law.proofs.Fronts.{prefix_trans}
use Rattle.shard_law.specs.ShardRecord.{ShardRecord}
use Rattle.shard_law.specs.Mode.TheVariants.{Following}
use Rattle.shard_law.specs.Copied as C
use Rattle.shard_law.specs.Event.{Event}
use Rattle.shard_law.specs.Event.TheVariants.{Commit, Follow, Copy, Freeze, Thaw, Retire, Serve}
use Rattle.shard_law.specs.Entry.{Entry}
use Rattle.shard_law.specs.ShardRunRuns.{Run, Opening, shard_rows, first_rows, mode, answers_queries, is_on, is_stored, stored_on, stored_changes, entries_on}
use Rattle.shard_law.specs.Copies.{position, is_key_before, table_at, is_last, has_copied_all, is_copied, is_copy_that, reaches}
use Rattle.shard_law.specs.Legal.{Legal, MayCopy, Had, IsOnItsSlot, is_left}
use Rattle.shard_law.specs.Openings.{IsOpening, row_count}
use Rattle.shard_law.specs.Law.{copied_by, rows_copied}
use Rattle.shard_law.proofs.Databases.{length-all_applied}
use Rattle.shard_law.proofs.Keys.{filter-permuted}
use Rattle.shard_law.proofs.Unique.{filter-fewer, unique-from_few, few_held}
use Rattle.shard_law.proofs.Rising.{last_key_tells, none_tells}
use Rattle.shard_law.proofs.Runs.{log, log-on, mode-on, stored_on-push}
use Rattle.shard_law.specs.declared.limits.Limits.{Limits}
use Rattle.shard_contents.specs.declared.contents.Contents.{Contents}
use Rattle.shard_contents.specs.declared.target_steps.TargetStep.{TargetStep}
use Rattle.shard_contents.specs.declared.target_steps.TargetStep.TheVariants.{Copied}
use Rattle.shard_contents.specs.Progress.{last_row, steps_of, steps_on}
use Rattle.shard_contents.specs.Kept.{keep, kept_from, kept_on}
use Rattle.shard_contents.specs.KeptEntries.{kept_of, entries_kept}
use Rattle.shard_law.specs.Entries as entries_of
use Rattle.shard_law.specs.Entries.{ShardView, slot_of, commit_of}
use Rattle.shard_contents.specs.Shards.{Holds, holds, Keeps, IsAfter, RetiredFor, beyond, state_view}
use Rattle.shard_contents.specs.Copying.{is_reached, is_left_to_copy, IsCopyFor, IsNextCopy, PassesLimit}
use Rattle.shard_contents.specs.Copying as limits
use Rattle.shard_contents.specs.inner.Copying.{has_room_to_copy}
use Rattle.shard_contents.specs.inner.Placed.{AreFirst}
use Rattle.shard_contents.specs.inner.Rowed.{row_of}
use Rattle.shard_contents.proofs.StepRoom.{copied_count, room_to_copy, no_room_to_copy}
use Rattle.shard_contents.proofs.Bags.{row_count-same, same_through, length-same, all_applied-same}
use Rattle.shard_contents.proofs.FirstRows.{strictly}
use Rattle.shard_contents.proofs.Commits.{applied-append}
use Rattle.shard_contents.proofs.Follows as f
use Rattle.shard_contents.proofs.Legality.{stands-next, lives, of_run}
use Rattle.shard_contents.proofs.Looks.{following_lives}
use Rattle.shard_contents.proofs.Modes.{here, stands_there, mode_there}
use Rattle.shard_contents.proofs.Positions.{position-same, copied_all-same, any_both}
use Rattle.shard_contents.proofs.Kept.{kept-push}
use Rattle.shard_contents.proofs.KeptStored.{kept_at}
use Rattle.shard_contents.proofs.Progress.{steps-push}
use Rattle.shard_contents.proofs.StoredLogs.{same_log, kept_at_its_place}
use Rattle.shard_contents.proofs.States.{held-same, stored-same, holds_of, entries-on, alone_here, lives_if}
use Rattle.shard_contents.proofs.Tables.{stored_there, there_from}

-- ---- the last row that was copied

abbrev pub later : Option Row → Option Row → Option Row
later None old = old
later (Some row) old = Some row

-- the last of these steps' rows of the table from the source
abbrev pub row_last : ℕ → ℕ → Option Row → List TargetStep → Option Row
row_last source n old [] = old
row_last source n old (x ∷ steps) = row_last source n (later (row_of source n x) old) steps

pub row_last-push : (source n : ℕ) (old : Option Row) (steps : List TargetStep) (x : TargetStep)
    → row_last source n old (steps ++ x ∷ []) ≡ later (row_of source n x) (row_last source n old steps)
row_last-push source n old [] x = refl
row_last-push source n old (y ∷ steps) x = row_last-push source n (later (row_of source n y) old) steps x

later-assoc : (a b c : Option Row) → later (later a b) c ≡ later a (later b c)
later-assoc None b c = refl
later-assoc (Some r) b c = refl

later-none : (a : Option Row) → later a None ≡ a
later-none None = refl
later-none (Some r) = refl

last_row-append : (xs ys : List Row) → last_row (xs ++ ys) ≡ later (last_row ys) (last_row xs)
last_row-append [] ys = sym (later-none (last_row ys))
last_row-append (x ∷ []) [] = refl
last_row-append (x ∷ []) (y ∷ ys) = by ys
  where
    by : (ys : List Row) → last_row (y ∷ ys) ≡ later (last_row (y ∷ ys)) (Some x)
    by [] = refl
    by (z ∷ ys) = some z ys
      where
        some : (z : Row) (ys : List Row) → last_row (z ∷ ys) ≡ later (last_row (z ∷ ys)) (Some x)
        some z [] = refl
        some z (w ∷ ys) = some w ys
last_row-append (x ∷ z ∷ xs) ys = last_row-append (z ∷ xs) ys

last_row-if : (b : Bool) (rows : List Row) → last_row (if b then rows else []) ≡ (if b then last_row rows else None)
last_row-if true rows = refl
last_row-if false rows = refl

row_last-run : (source n : ℕ) (old : Option Row) (run : Run)
    → later (last_row (flat_map (λ (e : Entry). copied_by source n e.event) run)) old ≡ row_last source n old (flat_map (λ (e : Entry). steps_of e.event) run)
row_last-run source n old [] = refl
row_last-run source n old (e ∷ run) = by e.event (λ new. row_last-run source n new run)
  where
    rest : Option Row
    rest = last_row (flat_map (λ (x : Entry). copied_by source n x.event) run)

    by : (ev : Event)
        → ((new : Option Row) → later (last_row (flat_map (λ (x : Entry). copied_by source n x.event) run)) new ≡ row_last source n new (flat_map (λ (x : Entry). steps_of x.event) run))
        → later (last_row (flat_map (λ (x : Entry). copied_by source n x.event) (record e { event = ev } ∷ run))) old
        ≡ row_last source n old (flat_map (λ (x : Entry). steps_of x.event) (record e { event = ev } ∷ run))
    by (Commit c) ih = ih old
    by (Follow c) ih = ih old
    by (Copy c) ih =
        ap (λ r. later r old) (last_row-append (copied_by source n (Copy c)) (flat_map (λ (x : Entry). copied_by source n x.event) run))
        ∙ later-assoc (last_row (flat_map (λ (x : Entry). copied_by source n x.event) run)) (last_row (copied_by source n (Copy c))) old
        ∙ ap (λ r. later (last_row (flat_map (λ (x : Entry). copied_by source n x.event) run)) (later r old)) (last_row-if ((c.source == source) && (c.table == n)) c.rows)
        ∙ ih (later (row_of source n (Copied c.source c.table c.log_position (is_last c) (last_row c.rows))) old)
    by Freeze ih = ih old
    by Thaw ih = ih old
    by (Retire targets) ih = ih old
    by Serve ih = ih old

pub row_is : (run : Run) (slot source n : ℕ) → last_row (rows_copied run slot source n) ≡ row_last source n None (steps_on slot run)
row_is run slot source n = sym (later-none (last_row (rows_copied run slot source n))) ∙ row_last-run source n None (entries_on slot run)

-- ---- what is copied

data Split (xs : List Row) : Type 0 where
  empty : xs ≡ [] → last_row xs ≡ None → Split xs
  ends : (rows : List Row) (row : Row) → xs ≡ rows ++ row ∷ [] → last_row xs ≡ Some row → Split xs

split : (xs : List Row) → Split xs
split [] = empty refl refl
split (x ∷ []) = ends [] x refl refl
split (x ∷ y ∷ xs) = by (split (y ∷ xs))
  where
    by : Split (y ∷ xs) → Split (x ∷ y ∷ xs)
    by (empty e l) = absurd (cc e)
    by (ends rows row e l) = ends (x ∷ rows) row (ap (λ ys. x ∷ ys) e) l

-- the last row tells it
pub copied_tells : (o : Opening) → IsOpening o → (run : Run) → Legal o run → (slot source n : ℕ) (row : Row)
    → is_copied o.schema run slot source n row
    ≡ (has_copied_all run slot source n || is_reached (table_at o.schema n) (last_row (rows_copied run slot source n)) row)
copied_tells o opens run legal slot source n row = by (split (rows_copied run slot source n))
  where
    by : Split (rows_copied run slot source n) → is_copied o.schema run slot source n row
        ≡ (has_copied_all run slot source n || is_reached (table_at o.schema n) (last_row (rows_copied run slot source n)) row)
    by (empty e l) =
        none_tells o opens run slot source n e row ∙ sym (or-false (has_copied_all run slot source n))
        ∙ ap (λ r. has_copied_all run slot source n || is_reached (table_at o.schema n) r row) (sym l)
    by (ends rows last e l) =
        last_key_tells o opens run legal slot source n rows last e row
        ∙ ap (λ r. has_copied_all run slot source n || is_reached (table_at o.schema n) r row) (sym l)

-- all of a table is copied, or what its last row tells
pub copied_all : (o : Opening) (run : Run) (slot source n : ℕ) (row : Row) (after : Option Row)
    → is_copied o.schema run slot source n row ≡ (has_copied_all run slot source n || is_reached (table_at o.schema n) after row)
    → has_copied_all run slot source n ≡ true → is_copied o.schema run slot source n row ≡ true
copied_all o run slot source n row after tells all = tells ∙ ap (λ b. b || is_reached (table_at o.schema n) after row) all

pub copied_as : (o : Opening) (run : Run) (slot source n : ℕ) (row : Row) (after : Option Row)
    → is_copied o.schema run slot source n row ≡ (has_copied_all run slot source n || is_reached (table_at o.schema n) after row)
    → has_copied_all run slot source n ≡ false → is_copied o.schema run slot source n row ≡ is_reached (table_at o.schema n) after row
copied_as o run slot source n row after tells not_all = tells ∙ ap (λ b. b || is_reached (table_at o.schema n) after row) not_all

pub last_get : (rows : List Row) → slice_get rows (length rows - 1) ≡ last_row rows
last_get [] = refl
last_get (x ∷ []) = refl
last_get (x ∷ y ∷ rows) =
    let e : length (x ∷ y ∷ rows) - 1 ≡ suc (length (y ∷ rows) - 1) = omega arith in
    ap (slice_get (x ∷ y ∷ rows)) e ∙ last_get (y ∷ rows)

pub all_added : (n k : ℕ) (rows : List Row) → n < k → AllByRecursion (λ c. changed_table c < k) (map (Added n) rows)
all_added n k [] l = tt
all_added n k (row ∷ rows) l = (l, all_added n k rows l)

-- one more item, which passes the test or doesn't
pub kept_next : {X : Type 0} (p : X → Bool) (xs : List X) (i : ℕ) (x : X) → i < length xs → x ≡ get_or xs i x → p x ≡ true
    → filter p (take (i + 1) xs) ≡ filter p (take i xs) ++ x ∷ []
kept_next p xs i x there is passes =
    let one : filter p (x ∷ []) ≡ x ∷ [] = simp passes in
    ap (filter p) (take_more xs i x there ∙ ap (λ y. take i xs ++ y ∷ []) (sym is)) ∙ filter-append p (take i xs) (x ∷ []) ∙ ap (λ l. filter p (take i xs) ++ l) one

pub dropped_next : {X : Type 0} (p : X → Bool) (xs : List X) (i : ℕ) (x : X) → i < length xs → x ≡ get_or xs i x → p x ≡ false
    → filter p (take (i + 1) xs) ≡ filter p (take i xs)
dropped_next p xs i x there is fails =
    let none : filter p (x ∷ []) ≡ [] = simp fails in
    ap (filter p) (take_more xs i x there ∙ ap (λ y. take i xs ++ y ∷ []) (sym is)) ∙ filter-append p (take i xs) (x ∷ []) ∙ ap (λ l. filter p (take i xs) ++ l) none
    ∙ append-nil (filter p (take i xs))

-- ---- what a source has

-- what a state still has of its stored entries
pub entry_told : (o : Opening) (most : Limits) (seen : Run) (c : Contents) (v : ShardView) → Keeps o most seen c → state_view seen c ≡ v
    → (mode o v.seen v.shard.slot ≡ Rattle.shard_law.specs.Mode.TheVariants.Retired → ⊥) → (at : ℕ) (changes : List RowChange)
    → (c.stored.log.first ≤ at) × (slice_get c.stored.log.kept (at - c.stored.log.first) ≡ Some changes)
    → (e : Entry) × (slice_get (stored_on v.shard.slot v.seen) at ≡ Some e) × (kept_of e ≡ changes)
entry_told o most seen c v keeps view lives at changes (from, is) =
    let has = holds_of o most seen c keeps (λ retired. lives (ap (λ (x : ShardView). mode o x.seen x.shard.slot) (sym view) ∙ retired)) in
    let log = c.stored.log in
    let h = kept_at_its_place (entries_kept c.shard.slot seen) log.first at changes from
    (ap (λ (l : List (List RowChange)). slice_get l (at - log.first)) (sym has.stored.kept) ∙ is) in
    subst (λ (x : ShardView). (e : Entry) × (slice_get (stored_on x.shard.slot x.seen) at ≡ Some e) × (kept_of e ≡ changes)) view
    (kept_at (stored_on c.shard.slot seen) at changes h.0 h.1)

pub table_is : (schema : VSchema) (items : List Table) → items ≡ schema.tables → (n : ℕ) (t : Table) → n < length items → t ≡ get_or items n t
    → t ≡ table_at schema n
table_is schema items are n t there is = is ∙ other items n t no_table there ∙ ap (λ (l : List Table). get_or l n no_table) are
  where
    other : {X : Type 0} (xs : List X) (n : ℕ) (d e : X) → n < length xs → get_or xs n d ≡ get_or xs n e
    other [] n d e l = absurd (omega (arith, l))
    other (x ∷ xs) zero d e l = refl
    other (x ∷ xs) (suc n) d e l = other xs n d e (omega (arith, l))

pub first_as : (place : Place) (t t' : Table) (after after' : Option Row) (rows rows' first : List Row) → t ≡ t' → after ≡ after' → rows ≡ rows'
    → AreFirst t (is_left_to_copy place t after) rows first → AreFirst t' (is_left_to_copy place t' after') rows' first
first_as place t t' after after' rows rows' first a b c f =
    subst (λ (x : Table). AreFirst x (is_left_to_copy place x after') rows' first) a
    (subst (λ (x : Option Row). AreFirst t (is_left_to_copy place t x) rows' first) b
    (subst (λ (x : List Row). AreFirst t (is_left_to_copy place t after) x first) c f))

pub stored_there_now : (o : Opening) (run : Run) → Legal o run → (source at : ℕ) (e : Entry) → slice_get (stored_on source run) at ≡ Some e
    → AllByRecursion (λ c. changed_table c < length o.schema.tables) (stored_changes e.event)
stored_there_now o run legal source at e stored = stored_there o run source at e (there_from o run [] legal tt) stored

module _ (o : Opening) (most : Limits) (seat : SeatView Entry) (c : Contents) (is : IsAfter o most seat c) (formed : is_vschema o.schema ≡ true)
    (legal : Legal o seat.seen) (serves : answers_queries (mode o seat.seen c.shard.slot) ≡ true) (n : ℕ) where
  has : Holds o most seat.seen c
  has = holds_of o most seat.seen c is.keeps (lives_if (mode o seat.seen c.shard.slot) serves)

  same : IsPermutation (rows_of c.store.rows n) (rows_of (shard_rows o seat.seen c.shard) n)
  same = rows-same c.store.rows (shard_rows o seat.seen c.shard) has.rows n

  -- no two of these rows have one key
  few : (test : Row → Bool) (arranged : List Row) → IsPermutation (filter test (rows_of c.store.rows n)) arranged → (r : Row)
      → length (filter (λ row. same_row (key_of (table_at o.schema n) row) (key_of (table_at o.schema n) r)) arranged) ≤ 1
  few test arranged all r =
      let q : Row → Bool = λ row. same_row (key_of (table_at o.schema n) row) (key_of (table_at o.schema n) r) in
      let h = filter-permuted q (filter test (rows_of c.store.rows n)) arranged all in
      let k = filter-fewer test q (rows_of c.store.rows n) in
      let l = filter-permuted q (rows_of c.store.rows n) (rows_of (shard_rows o seat.seen c.shard) n) same in
      let m = few_held o is.opens formed seat.seen legal c.shard (lives o is.opens seat.seen c.shard is.stands serves) n r in
      omega (arith, h, k, l, m)

  pub copy_for : (place : Place) (after : Option Row) (first : List Row) (taken : C.Copied)
      → AreFirst (table_at o.schema n) (is_left_to_copy place (table_at o.schema n) after) (rows_of c.store.rows n) first
      → taken.source ≡ c.shard.slot → taken.table ≡ n → taken.log_position ≡ length (stored_on c.shard.slot seat.seen) → taken.rows ≡ first
      → IsCopyFor o seat.seen c.shard place after taken
  copy_for place after first taken f source table at rows =
      let t = table_at o.schema n in
      let test : Row → Bool = is_left_to_copy place t after in
      let unique = unique-from_few t f.arranged (few test f.arranged f.all) in
      let all : IsPermutation (filter test (rows_of (shard_rows o seat.seen c.shard) n)) f.arranged =
      IsPermutation-trans (filter test (rows_of (shard_rows o seat.seen c.shard) n)) (filter test (rows_of c.store.rows n)) f.arranged
      (IsPermutation-filter test (rows_of (shard_rows o seat.seen c.shard) n) (rows_of c.store.rows n)
      (IsPermutation-sym (rows_of c.store.rows n) (rows_of (shard_rows o seat.seen c.shard) n) same)) f.all in
      record {
        of_source = source;
        of_run = of_run o is.opens seat.seen c.shard is.stands serves;
        serves = serves;
        place = at;
        arranged = f.arranged;
        all = subst (λ m. IsPermutation (filter (is_left_to_copy place (table_at o.schema m) after) (rows_of (shard_rows o seat.seen c.shard) m)) f.arranged) (sym table) all;
        in_order =
            subst (λ m. AllPairs (λ a b. IsTrue (is_key_before (key_of (table_at o.schema m) a) (key_of (table_at o.schema m) b))) f.arranged) (sym table)
            (strictly t f.arranged f.in_order unique);
        rows = rows ∙ f.is;
      }

-- ---- when a Copy is lawful

module _ (o : Opening) (old new : Run) (t : ShardRecord) (same : entries_on t.slot new ≡ entries_on t.slot old) where
  pub left-same : (source n : ℕ) (row : Row) → is_left o new t source n row ≡ is_left o old t source n row
  left-same source n row =
      ap (λ b. lies_in t.place (table_at o.schema n) row && not b)
      (any_both (is_on t.slot) (λ e. is_copy_that (reaches (table_at o.schema n) (key_of (table_at o.schema n) row)) source n e.event) new
      ∙ ap (λ (l : Run). Rattle.std.specs.List.list_any (λ (e : Entry). is_copy_that (reaches (table_at o.schema n) (key_of (table_at o.schema n) row)) source n e.event) l) same
      ∙ sym (any_both (is_on t.slot) (λ e. is_copy_that (reaches (table_at o.schema n) (key_of (table_at o.schema n) row)) source n e.event) old))

pub had_later : (o : Opening) (old new : Run) (slot entries : ℕ) (db : Database) → IsPrefix old new → Had o old slot entries db → Had o new slot entries db
had_later o old new slot entries db (rest, is) h = record {
  front = h.front;
  back = h.back ++ rest;
  is = sym is ∙ ap (λ r. r ++ rest) h.is ∙ Rattle.std.proofs.lemmas.List.append_assoc h.front h.back rest;
  shard = h.shard;
  of_run = h.of_run;
  on = h.on;
  serves = h.serves;
  stored = h.stored;
  rows = h.rows;
}

-- a Copy that was next by what seat and pass had seen may come in each run that they may meet
pub may_copy_later : (o : Opening) (run new : Run) (v : ShardView) (t : ShardRecord) (c : C.Copied) → IsNextCopy o run v c → v.shard ≡ t → IsPrefix run new
    → entries_on t.slot new ≡ entries_on t.slot v.seen → mode o new t.slot ≡ Following → MayCopy o new t c
may_copy_later o run new v t c is shard later same following =
    let x : IsNextCopy o run (record v { shard = t }) c = subst (λ (s : ShardRecord). IsNextCopy o run (record v { shard = s }) c) shard is in
    record {
      following = following;
      of_source = x.of_source;
      table = x.next.table;
      unfinished = copied_all-same v.seen new t.slot c.source c.table same ∙ x.next.unfinished;
      first = λ n of_table earlier. copied_all-same v.seen new t.slot c.source n same ∙ x.next.first n of_table earlier;
      place = by (x.place);
      db = x.db;
      had = had_later o run new c.source c.log_position x.db later x.had;
      arranged = x.arranged;
      all =
          subst (λ (l : List Row). IsPermutation l x.arranged)
          (filter_agree (is_left o v.seen t c.source c.table) (is_left o new t c.source c.table) (λ row. sym (left-same o v.seen new t same c.source c.table row))
          (rows_of x.db c.table)) x.all;
      in_order = x.in_order;
      rows = x.rows;
    }
  where
    by : (position v.seen t.slot c.source ≡ None) ⊎ (position v.seen t.slot c.source ≡ Some c.log_position)
        → (position new t.slot c.source ≡ None) ⊎ (position new t.slot c.source ≡ Some c.log_position)
    by (inl e) = inl (position-same v.seen new t.slot c.source same ∙ e)
    by (inr e) = inr (position-same v.seen new t.slot c.source same ∙ e)

-- ---- what a Copy leaves

module _ (o : Opening) (most : Limits) (seat : SeatView Entry) (c : Contents) (is : IsAfter o most seat c) (following : mode o seat.seen c.shard.slot ≡ Following)
    (run : Run) (alone : entries_on seat.slot run ≡ entries_on seat.slot seat.seen) (taken : C.Copied) where
  abbrev s : ShardRecord
  s = c.shard

  abbrev e : Entry
  e = record { shard = s; event = Copy taken }

  abbrev changes : List RowChange
  changes = map (Added taken.table) taken.rows

  on : is_on s.slot e ≡ true
  on = eq-eqb s.slot s.slot refl

  same_on : entries_on s.slot run ≡ entries_on s.slot seat.seen
  same_on = here o most seat c is run alone

  held_before : Holds o most seat.seen c
  held_before = holds_of o most seat.seen c is.keeps (following_lives (mode o seat.seen s.slot) following)

  pub mode_copies : mode o (run ++ e ∷ []) s.slot ≡ Following
  mode_copies = mode-on o run e s.slot on ∙ mode_there o most seat c is run alone ∙ following

  held_now : shard_rows o (run ++ e ∷ []) s ≡ all_applied changes (shard_rows o seat.seen s)
  held_now =
      ap (λ (l : List RowChange). all_applied l (first_rows o s)) (log-on run e s.slot on)
      ∙ applied-append (log s.slot run) changes (first_rows o s)
      ∙ ap (all_applied changes) (held-same o seat.seen run s same_on)

  stored_now : stored_on s.slot (run ++ e ∷ []) ≡ stored_on s.slot seat.seen
  stored_now =
      let none : filter (λ (x : Entry). is_on s.slot x && is_stored x.event) (e ∷ []) ≡ [] = simp on in
      stored_on-push run e s.slot ∙ ap (λ (l : Run). stored_on s.slot run ++ l) none ∙ append-nil (stored_on s.slot run) ∙ stored-same o seat.seen run s same_on

  abbrev came : TargetStep
  came = Copied taken.source taken.table taken.log_position (is_last taken) (last_row taken.rows)

  pub after_copy : (seat' : SeatView Entry) (c' : Contents) → seat'.seen ≡ run ++ e ∷ [] → seat'.slot ≡ seat.slot → c'.shard ≡ s
      → SameRows c'.store.rows (all_applied changes c.store.rows) → c'.mode ≡ c.mode → c'.stored.log ≡ c.stored.log → c'.steps.items ≡ keep came c.steps.items
      → c'.limits ≡ c.limits → length (entries_on s.slot seat.seen) < 2 ^ 40 → IsAfter o most seat' c'
  after_copy seat' c' seen at shard_is rows modes stores steps_are limits_are room =
      let now : SameRows c'.store.rows (shard_rows o (run ++ e ∷ []) s) =
      subst (SameRows c'.store.rows) (sym held_now)
      (same_through c'.store.rows (all_applied changes c.store.rows) (all_applied changes (shard_rows o seat.seen s)) rows
      (all_applied-same changes c.store.rows (shard_rows o seat.seen s) held_before.rows)) in
      record {
        opens = is.opens;
        slot = at ∙ is.slot ∙ ap (λ (t : ShardRecord). t.slot) (sym shard_is);
        stands =
            subst (λ r. IsOnItsSlot o r c'.shard) (sym seen)
            (subst (IsOnItsSlot o (run ++ e ∷ [])) (sym shard_is) (stands-next o run s e.event (stands_there o most seat c is run alone)));
        keeps = holds (record {
          rows = subst (SameRows c'.store.rows) (ap (shard_rows o (run ++ e ∷ [])) (sym shard_is) ∙ ap (λ r. shard_rows o r c'.shard) (sym seen)) now;
          tables = length-same c'.store.rows (all_applied changes c.store.rows) rows ∙ length-all_applied changes c.store.rows ∙ held_before.tables;
          mode =
              modes ∙ held_before.mode ∙ following ∙ sym mode_copies ∙ ap (λ (t : ShardRecord). mode o (run ++ e ∷ []) t.slot) (sym shard_is)
              ∙ ap (λ r. mode o r c'.shard.slot) (sym seen);
          stored =
              same_log _ _ _ _ stores
              (ap (map kept_of) (sym stored_now) ∙ ap (λ (t : ShardRecord). entries_kept t.slot (run ++ e ∷ [])) (sym shard_is)
              ∙ ap (entries_kept c'.shard.slot) (sym seen)) held_before.stored;
          steps =
              steps_are ∙ ap (keep came) (held_before.steps ∙ ap (λ (es : List Entry). kept_from [] (flat_map (λ (x : Entry). steps_of x.event) es)) (sym same_on))
              ∙ sym (kept-push [] (steps_on s.slot run) came) ∙ ap (kept_from []) (sym (steps-push run e s.slot on)) ∙ ap (λ (t : ShardRecord). kept_on t.slot (run ++ e ∷ [])) (sym shard_is)
              ∙ ap (kept_on c'.shard.slot) (sym seen);
          within = λ serves.
              absurd (false≢true (sym (ap answers_queries (ap (λ r. mode o r c'.shard.slot) seen
              ∙ ap (λ (t : ShardRecord). mode o (run ++ e ∷ []) t.slot) shard_is ∙ mode_copies)) ∙ serves));
        });
        entries =
            subst (λ r. length (entries_on c'.shard.slot r) ≤ 2 ^ 40 + beyond (mode o r c'.shard.slot)) (sym seen)
            (subst (λ (t : ShardRecord). length (entries_on t.slot (run ++ e ∷ [])) ≤ 2 ^ 40 + beyond (mode o (run ++ e ∷ []) t.slot)) (sym shard_is)
            (let h = ap length (entries-on run e s.slot on) in
            let k = length-append (entries_on s.slot run) (e ∷ []) in
            let l = ap length same_on in
            let n = ap beyond mode_copies in
            omega (arith, h, k, l, n, room)));
        limits = limits_are ∙ is.limits;
        most_rows = is.most_rows;
      }

-- ---- the Copy as the code makes it

module _ {X : Type 0} (o : Opening) (most : Limits) (seat looked : SeatView Entry) (c : Contents) (targets : List ShardRecord) (p q : PassView Entry)
    (inv : IsAfter o most seat c × RetiredFor o seat.seen c.shard targets × X) (further : IsLater slot_of commit_of (entries_of.MayFollow o) seat p looked.seen)
    (seat_is : looked ≡ record seat { seen = looked.seen }) (pass_is : q ≡ record p { seen = looked.seen; looks = p.looks ++ (seat.slot, length looked.seen) ∷ [] })
    (v : ShardView) (view : state_view seat.seen c ≡ v) (following : mode o v.seen v.shard.slot ≡ Following) (taken : C.Copied)
    (next : IsNextCopy o p.seen v taken) where
  now_is : IsAfter o most looked c
  now_is = f.now_is o most seat looked c targets p q inv further seat_is pass_is v view following

  pub copy_lawful : (run : Run) → IsLater slot_of commit_of (entries_of.MayFollow o) looked q run → entries_of.MayFollow o run (record { shard = c.shard; event = Copy taken })
  copy_lawful run more =
      let first = alone_here o most seat looked p c targets further (ap (λ (s : SeatView Entry). s.slot) seat_is) inv.0 in
      let second = here o most looked c now_is run more.alone in
      let v_seen : seat.seen ≡ v.seen = ap (λ (x : ShardView). x.seen) view in (
        stands_there o most looked c now_is run more.alone,
        may_copy_later o p.seen run v c.shard taken next (ap (λ (x : ShardView). x.shard) (sym view)) (prefix_trans p.seen looked.seen run further.pass more.seat)
            (second ∙ first ∙ ap (entries_on c.shard.slot) v_seen)
            (mode_there o most looked c now_is run more.alone
            ∙ f.follows_now o most seat looked c targets p q inv further seat_is pass_is v view following),
      )

  abbrev adds : List RowChange
  adds = map (Added taken.table) taken.rows

  has_now : Holds o most looked.seen c
  has_now = f.has_now o most seat looked c targets p q inv further seat_is pass_is v view following

  shard_is : c.shard ≡ v.shard
  shard_is = ap (λ (x : ShardView). x.shard) view

  -- after its entry it has so many rows
  copied_rows : (run : Run) → entries_on looked.slot run ≡ entries_on looked.slot looked.seen
      → row_count (shard_rows o (run ++ record { shard = v.shard; event = Copy taken } ∷ []) v.shard) ≡ row_count c.store.rows + length taken.rows
  copied_rows run alone =
      let follows = f.follows_now o most seat looked c targets p q inv further seat_is pass_is v view following in
      let changed = all_applied-same adds c.store.rows (shard_rows o looked.seen c.shard) has_now.rows in
      let there = next.next.table.0 in
      let tables = has_now.tables in
      ap (λ (s : ShardRecord). row_count (shard_rows o (run ++ record { shard = s; event = Copy taken } ∷ []) s)) (sym shard_is)
      ∙ ap row_count (held_now o most looked c now_is follows run alone taken)
      ∙ sym (row_count-same (all_applied adds c.store.rows) (all_applied adds (shard_rows o looked.seen c.shard)) changed)
      ∙ copied_count taken.table taken.rows c.store.rows (omega (arith, there, tables))

  -- after the run that was seen it may come
  pub copy_lawful_now : entries_of.MayFollow o q.seen (record { shard = v.shard; event = Copy taken })
  copy_lawful_now =
      let seen_same : q.seen ≡ looked.seen = ap (λ (x : PassView Entry). x.seen) pass_is in
      let h = copy_lawful looked.seen (f.nothing_since o looked q further.legal seen_same) in
      subst (λ (r : Run). entries_of.MayFollow o r (record { shard = v.shard; event = Copy taken })) (sym seen_same)
      (subst (λ (s : ShardRecord). entries_of.MayFollow o looked.seen (record { shard = s; event = Copy taken })) shard_is h)

  -- where the test by counts says no, a limit is passed
  pub copy_passes : (n : ℕ) → n ≡ length (filter (on_slot slot_of seat.slot) looked.seen)
      → has_room_to_copy c.limits n (row_count c.store.rows) (length taken.rows) ≡ false → PassesLimit o most q.seen v.shard (Copy taken)
  copy_passes n ns h = by (no_room_to_copy c.limits n (row_count c.store.rows) (length taken.rows) h)
    where
      by : (2 ^ 40 ≤ n) ⊎ (c.limits.rows < row_count c.store.rows + length taken.rows) → PassesLimit o most q.seen v.shard (Copy taken)
      by (inl h) =
          let count = f.count_is o most seat looked c targets p q inv further seat_is pass_is v view following n ns in
          let told = f.entries_told o most seat looked c targets p q inv further seat_is pass_is v view following in
          limits.entries (omega (arith, count, told, h))
      by (inr h) =
          let rows = copied_rows looked.seen refl in
          let limit = ap (λ (x : Limits). x.rows) inv.0.limits in
          let seen_same : q.seen ≡ looked.seen = ap (λ (x : PassView Entry). x.seen) pass_is in
          let told = ap (λ (r : Run). row_count (shard_rows o (r ++ record { shard = v.shard; event = Copy taken } ∷ []) v.shard)) seen_same in
          limits.rows (omega (arith, rows, limit, told, h))

  -- and where it says yes, none is
  pub copy_within : (n : ℕ) (run seen : Run) → entries_on looked.slot run ≡ entries_on looked.slot looked.seen
      → seen ≡ run ++ record { shard = c.shard; event = Copy taken } ∷ []
      → has_room_to_copy c.limits n (row_count c.store.rows) (length taken.rows) ≡ true → row_count (shard_rows o seen v.shard) ≤ most.rows
  copy_within n run seen alone end_is h =
      let rows = copied_rows run alone in
      let limit = ap (λ (x : Limits). x.rows) inv.0.limits in
      let few = room_to_copy c.limits n (row_count c.store.rows) (length taken.rows) h in
      let told = ap (λ (r : Run). row_count (shard_rows o r v.shard)) end_is
      ∙ ap (λ (s : ShardRecord). row_count (shard_rows o (run ++ record { shard = s; event = Copy taken } ∷ []) v.shard)) shard_is in
      omega (arith, rows, limit, few, told)
