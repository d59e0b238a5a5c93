-- What a commit of one write on a shard does, and why it is refused.
use Rattle.std.specs.Prelude.{◌≡◌, ℕ, ◌<◌, ◌≤◌, ◌^◌, Bool, true, false, IsTrue, List, [], ◌∷◌, ◌++◌, length, slice_index_or, Some, Ok, Err}
use Rattle.std.specs.List.{filter, list_all}
use mathlib.Core.List.{IsPrefix}
use Rattle.vt_value.specs.declared.refusal.Refusal.{Refusal}
use Rattle.vt_value.specs.declared.refusal.Refusal.TheVariants.{OutOfMemory, DuplicateKey, ShardFull}
use Rattle.vt_value.specs.Values.{Row}
use Rattle.vschema.specs.declared.schema.Place.{Place}
use Rattle.vschema.specs.declared.schema.VSchema.{VSchema}
use Rattle.vschema.specs.declared.changes.Write.{Write}
use Rattle.vschema.specs.declared.changes.Write.TheVariants.{Insert}
use Rattle.vschema.specs.declared.changes.RowChange.{RowChange}
use Rattle.vschema.specs.declared.changes.RowChange.TheVariants.{Added, Replaced, Removed}
use Rattle.vschema.specs.Schema.{no_table}
use Rattle.vschema.specs.Database.{Database, lies_in, restrict, all_applied}
use Rattle.shard_store.specs.Writes.{written_table, changes_of, change}
use Rattle.shard_law.specs.Runs.{IsLegal, by_session}
use Rattle.shard_law.specs.Views.{PassView}
use Rattle.shard_law.specs.ShardRecord.{ShardRecord}
use Rattle.shard_law.specs.Event.TheVariants.{Commit}
use Rattle.shard_law.specs.Entry.{Entry}
use Rattle.shard_law.specs.Mode.TheVariants as modes
use Rattle.shard_law.specs.ShardRunRuns.{Run, Opening, database, shard_rows, mode, answers_queries, entries_on, stored_on}
use Rattle.shard_contents.specs.declared.outcomes.CommitOutcome.{CommitOutcome}
use Rattle.shard_contents.specs.declared.outcomes.CommitOutcome.TheVariants.{Count, Frozen, NotServing}
use Rattle.shard_law.specs.Openings.{row_count}
use Rattle.shard_law.specs.declared.limits.Limits.{Limits}
use Rattle.shard_law.specs.Entries.{commit_of, MayFollow, HasLooked}

abbrev pub inserted_rows : Write → List Row
inserted_rows (Insert n new) = new
inserted_rows _ = []

-- the rows that the write adds lie in the place
abbrev pub IsPlaced : VSchema → Place → Write → Type 0
IsPlaced schema place w =
    IsTrue (list_all (lies_in place (slice_index_or schema.tables (written_table w) no_table)) (inserted_rows w))

-- the entry of a session's commit of one write
abbrev pub commit_entry : ShardRecord → ℕ → ℕ → Write → List RowChange → Entry
commit_entry s session number w changes =
    record { shard = s; event = Commit (record { session = session; number = number; statements = w ∷ []; changes = changes }) }

abbrev pub is_added : RowChange → Bool
is_added (Added n row) = true
is_added (Replaced n old new) = false
is_added (Removed n row) = false

abbrev pub is_removed : RowChange → Bool
is_removed (Added n row) = false
is_removed (Replaced n old new) = false
is_removed (Removed n row) = true

-- after the run, one more stored entry with these changes passes no limit of the shard
pub record HasRoom (o : Opening) (limits : Limits) (s : ShardRecord) (run : Run) (changes : List RowChange) : Type 0 where
  pub rows : row_count (all_applied changes (shard_rows o run s)) ≤ limits.rows
  pub stored : length (stored_on s.slot run) < limits.stored
  pub entries : length (entries_on s.slot run) < 2 ^ 40

-- The session of the pass has committed the write on the shard. The pass made one look, after which it has seen a run that ends with the
-- commit's entry, and this alone is new of its session. The count is what the write gives over the one database before that entry, in the
-- shard's place.
pub record HasCommitted (o : Opening) (limits : Limits) (s : ShardRecord) (p : PassView Entry) (w : Write) (count : ℕ) (now : PassView Entry) : Type 0 where
  pub looked : PassView Entry
  pub look : HasLooked o s.slot p looked
  pub before : Run
  pub later : IsPrefix looked.seen before
  pub own : (n : ℕ) → p.session ≡ Some n → filter (by_session commit_of n) before ≡ filter (by_session commit_of n) p.seen
  pub session : ℕ
  pub of_session : p.session ≡ Some session
  pub changes : List RowChange
  pub seen : now.seen ≡ before ++ commit_entry s session p.statements w changes ∷ []
  pub legal : IsLegal (MayFollow o) now.seen
  pub room : HasRoom o limits s before changes
  pub after : Database
  pub counted : change o.schema w (restrict o.schema s.place (database o before)) ≡ Ok (after, count)
  pub pass : now ≡ record looked { seen = now.seen }

-- What a shard answers to a write: it is committed; or one look shows that the shard is frozen, or doesn't serve, and the write comes back.
pub data HasAnswered (o : Opening) (limits : Limits) (s : ShardRecord) (p : PassView Entry) (w : Write) : CommitOutcome → PassView Entry → Type 0 where
  committed : {count : ℕ} {now : PassView Entry} → HasCommitted o limits s p w count now → HasAnswered o limits s p w (Count count) now
  frozen : {now : PassView Entry} → HasLooked o s.slot p now → mode o now.seen s.slot ≡ modes.Frozen → HasAnswered o limits s p w (Frozen w) now
  not_serving : {now : PassView Entry} → HasLooked o s.slot p now → answers_queries (mode o now.seen s.slot) ≡ false
      → HasAnswered o limits s p w (NotServing w) now

-- Why a commit is refused at a run: want of memory; the write has a primary key that is there already, in the one database's rows of the
-- shard's place; its changes would pass a limit of the shard.
pub data IsCommitRefusal (o : Opening) (limits : Limits) (s : ShardRecord) (run : Run) (w : Write) : Refusal → Type 0 where
  no_memory : IsCommitRefusal o limits s run w OutOfMemory
  duplicate : changes_of o.schema w (restrict o.schema s.place (database o run)) ≡ Err DuplicateKey → IsCommitRefusal o limits s run w DuplicateKey
  full : (changes : List RowChange) → changes_of o.schema w (shard_rows o run s) ≡ Ok changes → (HasRoom o limits s run changes → ⊥)
      → IsCommitRefusal o limits s run w ShardFull
