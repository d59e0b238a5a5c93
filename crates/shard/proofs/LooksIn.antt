-- What a transaction sees on its shard at a look.
use Rattle.std.proofs.Common.{◌≡◌, ◌⊎◌, inl, inr, ℕ, ◌≤◌, ◌^◌, true, List, [], ◌∷◌, ◌++◌, length, get_or, Option, Some, None, Result, Ok, Err, refl, sym, ap, ◌∙◌, subst, arith}
use Rattle.std.specs.Prelude.{IsSome, IfOk, IfErr, OnOk}
use Rattle.std.specs.List.{AllByRecursion}
use Rattle.std.proofs.lemmas.Bool.{false≢true}
use Rattle.std.proofs.lemmas.List.Sorted.{IsPermutation-refl}
use mathlib.Core.List.{IsPrefix}
use Rattle.vt_value.specs.Values.{Row}
use Rattle.vt_value.specs.declared.refusal.Refusal.{Refusal}
use Rattle.vt_value.specs.declared.refusal.Refusal.TheVariants.{OutOfMemory, DuplicateKey}
use Rattle.vschema.specs.declared.schema.Query.{Query}
use Rattle.vschema.specs.declared.schema.VSchema.{VSchema}
use Rattle.vschema.specs.declared.changes.Write.{Write}
use Rattle.vschema.specs.declared.changes.RowChange.{RowChange}
use Rattle.vschema.specs.Schema.{no_table}
use Rattle.vschema.specs.Sources.{source_rows}
use Rattle.vschema.specs.Storable.{is_storable}
use Rattle.vschema.specs.Database.{Database, SameRows, rows_of, all_applied}
use Rattle.shard_contents.specs.Groups.{CanBeSummed}
use Rattle.shard_contents.specs.Queries.{Allowed}
use Rattle.shard_contents.specs.Writes.{written_table, changes_of}
use Rattle.shard_contents.proofs.ChangeLemmas.{same_changes, rows-same}
use Rattle.shard_contents.proofs.SameAnswers.{same_allowed}
use Rattle.journal.specs.Runs.{IsLegal, NumbersBelow}
use Rattle.journal.specs.Views.{SeatView, PassView, IsLater}
use Rattle.journal.proofs.Fronts.{prefix_self}
use Rattle.journal.proofs.Public.{numbers_later}
use Rattle.shard_run.specs.declared.Entry.{Entry}
use Rattle.shard_run.specs.declared.ShardRecord.{ShardRecord}
use Rattle.shard_run.specs.Runs.{Run, Opening, shard_rows, answers_queries, stored_on}
use Rattle.shard_run.specs.Openings.{row_count}
use Rattle.shard_contents.specs.Legal.{IsChangeOf}
use Rattle.shard_contents.proofs.Storable.{held_storable}
use Rattle.shard_contents.specs.Limits.{Limits}
use Rattle.shard_contents.specs.declared.contents.Contents.{Contents}
use Rattle.shard_contents.specs.Entries.{MayFollow, slot_of, commit_of, ShardView}
use Rattle.shard_contents.specs.Shards.{IsAfter, state_view}
use Rattle.shard_contents.specs.Transactions.{PendingView, IsClear, IsPendingOf, HasWrittenIn, IsWriteRefusal, touched_with, entry_of}
use Rattle.shard_contents.specs.Transactions as t
use Rattle.shard_contents.proofs.Bags.{rows_all, all_applied-same}
use Rattle.shard_contents.proofs.Commits as commits
use Rattle.shard.proofs.CommitsIn as k
use Rattle.shard.proofs.Inside.{change_same}
use Rattle.shard_contents.proofs.Legality.{legal_is}
use Rattle.shard_contents.specs.inner.StoredLogs.{count_of}
use Rattle.shard_contents.proofs.KeptStored.{length-kept}
use Rattle.shard_contents.proofs.StoredLogs.{count-stored}
use Rattle.shard.proofs.Pendings as then
use Rattle.shard.proofs.SourceSums.{sources_summed}

-- what an answer says once it is known
pub ok_of : {T E : Type 0} (P : T → Type 0) (r : Result T E) (t : T) → r ≡ Ok t → IfOk r P → P t
ok_of P r t is h = subst (λ x. IfOk x P) is h

pub on_ok_of : {T E P : Type 0} (r : Result T E) (t : T) → r ≡ Ok t → OnOk r P → P
on_ok_of {T} {E} {P} r t is h = subst (λ x. OnOk x P) is h

pub err_of : {T E : Type 0} (P : E → Type 0) (r : Result T E) (e : E) → r ≡ Err e → IfErr r P → P e
err_of P r e is h = subst (λ x. IfErr x P) is h

-- the session of a pass
pub record Of (p : PassView Entry) : Type 0 where
  pub session : ℕ
  pub is : p.session ≡ Some session

pub session_of : (p : PassView Entry) → IsSome p.session → Of p
session_of p some = by p.session refl some
  where
    by : (x : Option ℕ) → p.session ≡ x → IsSome x → Of p
    by None e h = absurd (false≢true h)
    by (Some n) e h = record { session = n; is = e }

added_is : (tx : PendingView) (w : Write) (n m k l : ℕ) (a b : List RowChange) → n ≡ m → k ≡ l → a ≡ b
    → ◌≡◌ {A = PendingView} (record { touched = touched_with tx.touched (record { table = n; stored = k }); writes = tx.writes ++ w ∷ []; changes = tx.changes ++ a })
    (record { touched = touched_with tx.touched (record { table = m; stored = l }); writes = tx.writes ++ w ∷ []; changes = tx.changes ++ b })
added_is tx w n m k l a b tables stored changes =
    ap (λ (x : ℕ). record { touched = touched_with tx.touched (record { table = x; stored = k }); writes = tx.writes ++ w ∷ []; changes = tx.changes ++ a }) tables
    ∙ ap (λ (x : ℕ). record { touched = touched_with tx.touched (record { table = m; stored = x }); writes = tx.writes ++ w ∷ []; changes = tx.changes ++ a }) stored
    ∙ ap (λ (x : List RowChange). record { touched = touched_with tx.touched (record { table = m; stored = l }); writes = tx.writes ++ w ∷ []; changes = tx.changes ++ x }) changes

-- a shard's state after a look, at which the transaction was clear
module _ (o : Opening) (most : Limits) (seat : SeatView Entry) (c : Contents) (is : IsAfter o most seat c) (v : ShardView)
    (view_is : state_view seat.seen c ≡ v) (s : ShardRecord) (shards : v.shard ≡ s) (tx : PendingView) (clear_is : IsClear o s v.seen tx)
    (legal_is' : IsLegal (MayFollow o) v.seen) where
  shard_is : c.shard ≡ s
  shard_is = ap (λ (x : ShardView). x.shard) view_is ∙ shards

  seen_is : seat.seen ≡ v.seen
  seen_is = ap (λ (x : ShardView). x.seen) view_is

  legal : IsLegal (MayFollow o) seat.seen
  legal = subst (IsLegal (MayFollow o)) (sym seen_is) legal_is'

  clear : IsClear o c.shard seat.seen tx
  clear = subst (λ (u : ShardRecord). IsClear o u seat.seen tx) (sym shard_is) (subst (λ (r : Run). IsClear o s r tx) (sym seen_is) clear_is)

  -- the rows with the seat with more changes, and those of the run
  same_past : (changes : List RowChange) → SameRows (all_applied changes c.store.rows) (all_applied changes (shard_rows o seat.seen c.shard))
  same_past changes =
      all_applied-same changes c.store.rows (shard_rows o seat.seen c.shard)
      (commits.rows o most seat c is clear.serving seat.seen legal refl)

  held_is : shard_rows o seat.seen c.shard ≡ shard_rows o v.seen s
  held_is = ap (λ (u : ShardRecord). shard_rows o seat.seen u) shard_is ∙ ap (λ (r : Run). shard_rows o r s) seen_is

  pub same_there : (changes : List RowChange) → SameRows (all_applied changes c.store.rows) (all_applied changes (shard_rows o v.seen s))
  same_there changes = subst (λ (db : Database). SameRows (all_applied changes c.store.rows) (all_applied changes db)) held_is (same_past changes)

  pub tables : length c.store.rows ≡ length o.schema.tables
  tables = (commits.has o most seat c is clear.serving).tables

  pub few : row_count c.store.rows ≤ 2 ^ 20
  few =
      let within = (commits.has o most seat c is clear.serving).within (ap answers_queries clear.serving) in
      let most_rows = is.most_rows in
      omega (arith, within, most_rows)

  pub stored_is : count_of c.stored.log ≡ length (stored_on s.slot v.seen)
  stored_is =
      count-stored _ _ (commits.has o most seat c is clear.serving).stored ∙ length-kept c.shard.slot seat.seen ∙ ap (λ (u : ShardRecord). length (stored_on u.slot seat.seen)) shard_is
      ∙ ap (λ (r : Run). length (stored_on s.slot r)) seen_is

  -- what a query gives over those with the seat it may give over those of the run
  pub allowed : (changes : List RowChange) (q : Query) (rows : List Row) → Allowed q (all_applied changes c.store.rows) rows
      → Allowed q (all_applied changes (shard_rows o v.seen s)) rows
  allowed changes q rows answer =
      same_allowed q (all_applied changes c.store.rows) (all_applied changes (shard_rows o v.seen s)) rows (same_there changes) answer

  -- so are the changes of a write, and its refusal
  pub changed : (changes : List RowChange) (schema : VSchema) → schema ≡ o.schema → (w : Write) (more : List RowChange)
      → changes_of schema w (all_applied changes c.store.rows) ≡ Ok more → IsChangeOf o.schema w (all_applied changes (shard_rows o v.seen s)) more
  changed changes schema e w more h =
      change_same o.schema w (all_applied changes c.store.rows) (all_applied changes (shard_rows o v.seen s)) more (same_there changes)
      (more, ap (λ (x : VSchema). changes_of x w (all_applied changes c.store.rows)) (sym e) ∙ h, IsPermutation-refl more)

  pub duplicate : (changes : List RowChange) (schema : VSchema) → schema ≡ o.schema → (w : Write)
      → changes_of schema w (all_applied changes c.store.rows) ≡ Err DuplicateKey → changes_of o.schema w (all_applied changes (shard_rows o v.seen s)) ≡ Err DuplicateKey
  duplicate changes schema e w h =
      let n = written_table w in
      let a = all_applied changes c.store.rows in
      let b = all_applied changes (shard_rows o v.seen s) in
      (same_changes (get_or o.schema.tables n no_table) w (rows_of a n) (rows_of b n) (rows-same a b (same_there changes) n)).refused
      (ap (λ (x : VSchema). changes_of x w a) (sym e) ∙ h)

  -- why a write is refused, and the transaction with one more
  pub write_refused : (changes : List RowChange) → changes ≡ tx.changes → (schema : VSchema) → schema ≡ o.schema → (w : Write) (r : Refusal)
      → ((r ≡ OutOfMemory) ⊎ ((r ≡ DuplicateKey) × (changes_of schema w (all_applied changes c.store.rows) ≡ Err DuplicateKey)))
      → IsWriteRefusal o s v.seen tx w r
  write_refused changes own schema e w r (inl is) = subst (IsWriteRefusal o s v.seen tx w) (sym is) t.no_memory
  write_refused changes own schema e w r (inr h) =
      subst (IsWriteRefusal o s v.seen tx w) (sym h.0)
      (t.duplicate clear_is
      (duplicate tx.changes schema e w (subst (λ (l : List RowChange). changes_of schema w (all_applied l c.store.rows) ≡ Err DuplicateKey) own h.1)))

  pub written : (changes : List RowChange) → changes ≡ tx.changes → (schema : VSchema) → schema ≡ o.schema → (w : Write) (more own : List RowChange) → own ≡ more
      → changes_of schema w (all_applied changes c.store.rows) ≡ Ok more → (table stored count : ℕ) (now : PendingView) → table ≡ written_table w
      → stored ≡ count_of c.stored.log → count ≡ length more
      → now ≡ record { touched = touched_with tx.touched (record { table = table; stored = stored }); writes = tx.writes ++ w ∷ []; changes = tx.changes ++ own }
      → HasWrittenIn o s tx v.seen w count now
  written changes is schema e w more own owns h table stored count now tables' stored' counts kept = record {
    clear = clear_is;
    changes = more;
    changed = changed tx.changes schema e w more (subst (λ (l : List RowChange). changes_of schema w (all_applied l c.store.rows) ≡ Ok more) is h);
    counted = counts;
    kept = kept ∙ added_is tx w table (written_table w) stored (length (stored_on s.slot v.seen)) own more tables' (stored' ∙ stored_is) owns;
  }

  -- The rows with the transaction's own changes can be counted and summed.
  module _ (old : SeatView Entry) (p : PassView Entry) (later : IsLater slot_of commit_of (MayFollow o) old p v.seen) (tied_is : IsPendingOf o s tx p)
      (some : IsSome p.session) (above : (n : ℕ) → p.session ≡ Some n → NumbersBelow commit_of n p.statements p.seen) where
    abbrev of : Of p
    of = session_of p some

    low : NumbersBelow commit_of of.session p.statements seat.seen
    low =
        subst (NumbersBelow commit_of of.session p.statements) (sym seen_is)
        (numbers_later slot_of commit_of (MayFollow o) old p p v.seen of.session p.statements of.is refl (above of.session of.is) later)

    tied : IsPendingOf o c.shard tx p
    tied = subst (λ (u : ShardRecord). IsPendingOf o u tx p) (sym shard_is) tied_is

    may : MayFollow o seat.seen (entry_of c.shard of.session p.statements tx.writes tx.changes)
    may =
        k.lawful o most seat c is p tx clear tied prior seat.seen legal (prefix_self seat.seen)
        refl of.session p.statements low
      where
        prior : IsPrefix p.seen seat.seen
        prior = subst (IsPrefix p.seen) (sym seen_is) later.pass

    abbrev e : Entry
    e = entry_of c.shard of.session p.statements tx.writes tx.changes

    storable : (n : ℕ) → AllByRecursion (λ row. is_storable (get_or o.schema.tables n no_table) row ≡ true)
        (rows_of (all_applied tx.changes (shard_rows o seat.seen c.shard)) n)
    storable n =
        let serves = clear.serving in
        let l = then.legal_then o is.opens c.shard seat.seen is.stands legal serves of.session p.statements low tx.writes tx.changes may in
        let part = then.part_then o is.opens c.shard seat.seen is.stands legal serves of.session p.statements low tx.writes tx.changes may in
        subst (λ (d : Database). AllByRecursion (λ row. is_storable (get_or o.schema.tables n no_table) row ≡ true) (rows_of d n))
        (then.held_then o is.opens c.shard seat.seen is.stands legal serves of.session p.statements low tx.writes tx.changes may)
        (held_storable o is.opens (seat.seen ++ e ∷ []) (legal_is o (seat.seen ++ e ∷ []) l) c.shard part n)

    pub summed : (q : Query) → length (source_rows q (all_applied tx.changes c.store.rows)) ≤ 2 ^ 60
        → CanBeSummed (source_rows q (all_applied tx.changes c.store.rows))
    summed q few =
        sources_summed o.schema q (all_applied tx.changes c.store.rows)
        (λ n. rows_all (λ row. is_storable (get_or o.schema.tables n no_table) row ≡ true) (all_applied tx.changes c.store.rows)
        (all_applied tx.changes (shard_rows o seat.seen c.shard)) (same_past tx.changes) n (storable n))
        few
