-- Each change that an entry stores is of a table of the VSchema.
use Rattle.std.proofs.Common.{◌≡◌, ℕ, ◌<◌, Bool, ◌&&◌, List, [], ◌∷◌, ◌++◌, length, filter, slice_get, get_or, Some, Ok, sym, subst}
use Rattle.std.specs.List.{AllByRecursion}
use Rattle.std.proofs.lemmas.List.{append-nil, append_assoc}
use Rattle.vschema.specs.declared.schema.VSchema.{VSchema}
use Rattle.vschema.specs.declared.schema.Place.{Place}
use Rattle.vschema.specs.declared.changes.Write.{Write}
use Rattle.vschema.specs.declared.changes.RowChange.{RowChange}
use Rattle.vschema.specs.Schema.{no_table}
use Rattle.vschema.specs.TypedWrites.{IsTypedWrite}
use Rattle.vschema.specs.Database.{Database, rows_of, restrict, all_applied, changed_table, change_lies_in, restricted_changes}
use Rattle.shard_store.specs.Writes.{written_table, changes_of}
use Rattle.shard_law.specs.ShardRecord.{ShardRecord}
use Rattle.shard_law.specs.Event.{Event}
use Rattle.shard_law.specs.Event.TheVariants.{Commit, Follow, Copy, Freeze, Thaw, Retire, Serve}
use Rattle.shard_law.specs.Entry.{Entry}
use Rattle.shard_law.specs.ShardRunRuns.{Run, Opening, database, is_on, is_stored, stored_on, stored_changes}
use Rattle.shard_law.specs.Copies.{change_is_copied}
use Rattle.shard_law.specs.Legal.{Legal, LegalFrom, May, IsChangeOf, AreChangesOf}
use Rattle.shard_law.proofs.Lists.{In-all, In-from_filter, AllByRecursion-push, slice_get-In, all-weaker, all-filter, all-append}
use Rattle.std.proofs.lemmas.List.Elements.{All-from_recursion, recursion_from_All}
use Rattle.std.proofs.lemmas.List.Sorted.{All-permutation}
use Rattle.shard_law.proofs.Typed.{table_there}
use Rattle.shard_contents.proofs.Changes.{of_table}

abbrev pub IsThere : VSchema → RowChange → Type 0
IsThere schema c = changed_table c < length schema.tables

abbrev pub AreThere : Opening → Entry → Type 0
AreThere o e = AllByRecursion (IsThere o.schema) (stored_changes e.event)

module _ (schema : VSchema) where
  write_there : (w : Write) (db : Database) (changes : List RowChange) → IsTypedWrite schema w → changes_of schema w db ≡ Ok changes
      → AllByRecursion (IsThere schema) changes
  write_there w db changes typed is =
      all-weaker (λ c. changed_table c ≡ written_table w) (IsThere schema)
      (λ c h. subst (λ n. n < length schema.tables) (sym h) (table_there schema w typed)) changes
      (of_table (get_or schema.tables (written_table w) no_table) w (rows_of db (written_table w)) changes is)

  pub all_there : (writes : List Write) (db : Database) (changes : List RowChange) → AllByRecursion (IsTypedWrite schema) writes
      → AreChangesOf schema writes db changes → AllByRecursion (IsThere schema) changes
  all_there [] db changes h a = subst (AllByRecursion (IsThere schema)) (sym a) tt
  all_there (w ∷ writes) db changes h a = by a.0 a.1 a.2 a.3 (all_there writes (all_applied a.0 db) a.1 h.1 a.4)
    where
      by : (first rest : List RowChange) → changes ≡ first ++ rest → IsChangeOf schema w db first
          → AllByRecursion (IsThere schema) rest → AllByRecursion (IsThere schema) changes
      by first rest e c k =
          subst (AllByRecursion (IsThere schema)) (sym e)
          (all-append (IsThere schema) first rest
          (recursion_from_All (IsThere schema) first (All-permutation (IsThere schema) c.0 first c.2
          (All-from_recursion (IsThere schema) c.0 (write_there w db c.0 h.0 c.1)))) k)

module _ (o : Opening) where
  -- what a step takes over of an entry
  restricted_there : (place : Place) (p : RowChange → Bool) (e : Entry) → AreThere o e
      → AllByRecursion (IsThere o.schema) (filter p (restricted_changes o.schema place (stored_changes e.event)))
  restricted_there place p e there =
      all-filter (IsThere o.schema) p (restricted_changes o.schema place (stored_changes e.event))
      (all-filter (IsThere o.schema) (change_lies_in o.schema place) (stored_changes e.event) there)

  pub stored_there : (run : Run) (source place : ℕ) (e : Entry) → AllByRecursion (AreThere o) run → slice_get (stored_on source run) place ≡ Some e → AreThere o e
  stored_there run source place e all at =
      In-all (AreThere o) e run all
      (In-from_filter (λ x. is_on source x && is_stored x.event) e run (slice_get-In (stored_on source run) place e at)).0

  last_there : (before : Run) (s : ShardRecord) (ev : Event) → May o before s ev → AllByRecursion (AreThere o) before → AllByRecursion (IsThere o.schema) (stored_changes ev)
  last_there before s (Commit c) m all = all_there o.schema c.statements (restrict o.schema s.place (database o before)) c.changes m.typed m.meant
  last_there before s (Follow f) m all =
      subst (AllByRecursion (IsThere o.schema)) (sym m.filtered)
      (restricted_there s.place (change_is_copied o.schema before s.slot f.source) m.entry (stored_there before f.source f.log_position m.entry all m.stored))
  last_there before s (Copy c) m all = tt
  last_there before s Freeze m all = tt
  last_there before s Thaw m all = tt
  last_there before s (Retire targets) m all = tt
  last_there before s Serve m all = tt

  pub there_from : (run before : Run) → LegalFrom o before run → AllByRecursion (AreThere o) before → AllByRecursion (AreThere o) (before ++ run)
  there_from [] before legal all = subst (AllByRecursion (AreThere o)) (sym (append-nil before)) all
  there_from (e ∷ run) before legal all =
      subst (AllByRecursion (AreThere o)) (append_assoc before (e ∷ []) run)
      (there_from run (before ++ e ∷ []) legal.2 (AllByRecursion-push (AreThere o) before e all (last_there before e.shard e.event legal.1 all)))

  -- the tables of what a step takes over are there
  pub taken_there : (run : Run) → Legal o run → (source at : ℕ) (e : Entry) → slice_get (stored_on source run) at ≡ Some e → (place : Place) (p : RowChange → Bool)
      → AllByRecursion (λ c. changed_table c < length o.schema.tables) (filter p (restricted_changes o.schema place (stored_changes e.event)))
  taken_there run legal source at e stored place p =
      restricted_there place p e (stored_there run source at e (there_from run [] legal tt) stored)
