-- A transaction on its one shard before it is committed: what it has touched and written, when another session has changed a table that it
-- touched, and what its commit does.
use Rattle.std.specs.Prelude.{◌≡◌, ℕ, ◌≤◌, Bool, true, false, ◌==◌, IsTrue, List, [], ◌∷◌, ◌++◌, length, drop, Some, Err, if◌then◌else◌}
use Rattle.std.specs.List.{AllByRecursion, filter, list_any}
use mathlib.Core.List.{IsPrefix}
use Rattle.vt_value.specs.declared.refusal.Refusal.{Refusal}
use Rattle.vt_value.specs.declared.refusal.Refusal.TheVariants.{OutOfMemory, Conflict, DuplicateKey, ShardMoved, ShardFull}
use Rattle.vt_value.specs.Values.{Row}
use Rattle.vschema.specs.declared.schema.Query.{Query}
use Rattle.vschema.specs.declared.changes.Write.{Write}
use Rattle.vschema.specs.declared.changes.RowChange.{RowChange}
use Rattle.vschema.specs.Database.{all_applied, changed_table}
use Rattle.vschema.specs.Sources.{source_tables}
use Rattle.vschema.specs.TypedWrites.{IsTypedWrite}
use Rattle.shard_store.specs.Queries.{Allowed}
use Rattle.shard_store.specs.Writes.{written_table, changes_of}
use Rattle.shard_law.specs.Runs.{IsLegal, by_session}
use Rattle.shard_law.specs.Views.{PassView}
use Rattle.shard_law.specs.ShardRecord.{ShardRecord}
use Rattle.shard_law.specs.Mode.TheVariants.{Serving}
use Rattle.shard_law.specs.Event.TheVariants.{Commit}
use Rattle.shard_law.specs.Entry.{Entry}
use Rattle.shard_law.specs.ShardRunRuns.{Run, Opening, shard_rows, mode, entries_on, stored_changes, stored_on}
use Rattle.shard_law.specs.Legal.{IsChangeOf, AreChangesOf}
use Rattle.shard_law.specs.declared.limits.Limits.{Limits}
use Rattle.shard_contents.specs.declared.touched_table.Touch.{Touch}
use Rattle.shard_law.specs.Entries.{commit_of, MayFollow, HasLooked}
use Rattle.shard_contents.specs.Commits.{IsPlaced, HasRoom}

-- the tables that it has touched, its writes in order, and the row changes that they make
pub record PendingView : Type 0 where
  pub touched : List Touch
  pub writes : List Write
  pub changes : List RowChange

-- a transaction that has done nothing
abbrev pub nothing_done : PendingView
nothing_done = record { touched = []; writes = []; changes = [] }

-- ---- conflicts

-- the entry changes a row of the table
abbrev pub changes_table : ℕ → Entry → Bool
changes_table n e = list_any (λ c. changed_table c == n) (stored_changes e.event)

-- of the entries that the shard has stored, one after the touch changes a row of its table
abbrev pub is_changed : List Entry → Touch → Bool
is_changed stored t = list_any (changes_table t.table) (drop t.stored stored)

abbrev pub is_conflict : List Entry → List Touch → Bool
is_conflict stored touched = list_any (is_changed stored) touched

-- after the run the shard serves and isn't frozen, and no table that the transaction touched was changed since
pub record IsClear (o : Opening) (s : ShardRecord) (run : Run) (tx : PendingView) : Type 0 where
  pub serving : mode o run s.slot ≡ Serving
  pub unchanged : is_conflict (stored_on s.slot run) tx.touched ≡ false

-- ---- what it touches and writes

abbrev pub is_touched : List Touch → ℕ → Bool
is_touched touched n = list_any (λ t. t.table == n) touched

-- a table is touched once, at first
abbrev pub touched_with : List Touch → Touch → List Touch
touched_with touched t = if is_touched touched t.table then touched else touched ++ t ∷ []

-- tables that are touched when the shard has stored so many entries
abbrev pub touched_all : List Touch → List ℕ → ℕ → List Touch
touched_all touched [] stored = touched
touched_all touched (n ∷ ns) stored = touched_all (touched_with touched (record { table = n; stored = stored })) ns stored

-- a table was touched on the shard, which serves after the run, when it had stored so many entries of it
pub record IsTouchBy (o : Opening) (s : ShardRecord) (run : Run) (t : Touch) : Type 0 where
  pub serving : mode o run s.slot ≡ Serving
  pub stored : t.stored ≤ length (stored_on s.slot run)

-- What a transaction is after a run that its session has seen: its changes are those of its writes, one after the other, over the rows that
-- the run leaves on the shard, each write is what some statement means and is on a touched table, and the rows that it adds lie there.
pub record IsPending (o : Opening) (s : ShardRecord) (run : Run) (tx : PendingView) : Type 0 where
  pub legal : IsLegal (MayFollow o) run
  pub made : AreChangesOf o.schema tx.writes (shard_rows o run s) tx.changes
  pub typed : AllByRecursion (IsTypedWrite o.schema) tx.writes
  pub placed : AllByRecursion (IsPlaced o.schema s.place) tx.writes
  pub touched : AllByRecursion (λ w. IsTrue (is_touched tx.touched (written_table w))) tx.writes
  pub touches : AllByRecursion (IsTouchBy o s run) tx.touched

-- and the pass has seen that run
abbrev pub IsPendingOf : Opening → ShardRecord → PendingView → PassView Entry → Type 0
IsPendingOf o s tx p = (run : Run) × IsPrefix run p.seen × IsPending o s run tx

-- ---- what its statements do

-- A query of it was read after a run: the shard serves and no touched table was changed, the rows are some that it may answer over those that
-- the run leaves on the shard with the changes so far, so many entries are on it, and the tables that it is over are touched.
pub record HasReadIn (o : Opening) (s : ShardRecord) (tx : PendingView) (run : Run) (query : Query) (rows : List Row) (entries : ℕ) (now : PendingView) : Type 0 where
  pub clear : IsClear o s run tx
  pub allowed : Allowed query (all_applied tx.changes (shard_rows o run s)) rows
  pub count : entries ≡ length (entries_on s.slot run)
  pub touch : now ≡ record tx { touched = touched_all tx.touched (source_tables query) (length (stored_on s.slot run)) }

-- A write of it was made after a run: the shard serves and no touched table was changed, its changes are those over the rows that the run
-- leaves on the shard with the changes so far, and it is kept with them.
pub record HasWrittenIn (o : Opening) (s : ShardRecord) (tx : PendingView) (run : Run) (w : Write) (count : ℕ) (now : PendingView) : Type 0 where
  pub clear : IsClear o s run tx
  pub changes : List RowChange
  pub changed : IsChangeOf o.schema w (all_applied tx.changes (shard_rows o run s)) changes
  pub counted : count ≡ length changes
  pub kept : now ≡ record {
    touched = touched_with tx.touched (record { table = written_table w; stored = length (stored_on s.slot run) });
    writes = tx.writes ++ w ∷ [];
    changes = tx.changes ++ changes;
  }

-- ---- its commit

-- the entry of a session's commit of the transaction
abbrev pub entry_of : ShardRecord → ℕ → ℕ → List Write → List RowChange → Entry
entry_of s session number writes changes =
    record { shard = s; event = Commit (record { session = session; number = number; statements = writes; changes = changes }) }

-- The session of the pass has committed the transaction on the shard. The pass made one look, after which it has seen a run that ends with the
-- commit's entry, and this alone is new of its session. Up to that entry the shard served and no touched table was changed since its touch.
pub record HasCommittedAll (o : Opening) (limits : Limits) (s : ShardRecord) (p : PassView Entry) (tx : PendingView) (now : PassView Entry) : Type 0 where
  pub looked : PassView Entry
  pub look : HasLooked o s.slot p looked
  pub before : Run
  pub later : IsPrefix looked.seen before
  pub own : (n : ℕ) → p.session ≡ Some n → filter (by_session commit_of n) before ≡ filter (by_session commit_of n) p.seen
  pub clear : IsClear o s before tx
  pub session : ℕ
  pub of_session : p.session ≡ Some session
  pub seen : now.seen ≡ before ++ entry_of s session p.statements tx.writes tx.changes ∷ []
  pub legal : IsLegal (MayFollow o) now.seen
  pub room : HasRoom o limits s before tx.changes
  pub pass : now ≡ record looked { seen = now.seen }

-- ---- refusals

-- Why the shard takes nothing more of a transaction at a run: it is frozen or doesn't serve; else a table that it touched was changed since.
pub data IsStopped (o : Opening) (s : ShardRecord) (run : Run) (tx : PendingView) : Refusal → Type 0 where
  moved : (mode o run s.slot ≡ Serving → ⊥) → IsStopped o s run tx ShardMoved
  conflict : mode o run s.slot ≡ Serving → is_conflict (stored_on s.slot run) tx.touched ≡ true → IsStopped o s run tx Conflict

-- why a query of it is refused: want of memory, or that
pub data IsReadRefusal (o : Opening) (s : ShardRecord) (run : Run) (tx : PendingView) : Refusal → Type 0 where
  no_memory : IsReadRefusal o s run tx OutOfMemory
  stopped : {r : Refusal} → IsStopped o s run tx r → IsReadRefusal o s run tx r

-- why a write of it is refused: want of memory, or that; else the write has a primary key that is there already, in the shard's rows with the
-- changes so far
pub data IsWriteRefusal (o : Opening) (s : ShardRecord) (run : Run) (tx : PendingView) (w : Write) : Refusal → Type 0 where
  no_memory : IsWriteRefusal o s run tx w OutOfMemory
  stopped : {r : Refusal} → IsStopped o s run tx r → IsWriteRefusal o s run tx w r
  duplicate : IsClear o s run tx → changes_of o.schema w (all_applied tx.changes (shard_rows o run s)) ≡ Err DuplicateKey
      → IsWriteRefusal o s run tx w DuplicateKey

-- why its commit is refused at a run: want of memory, or that; else its changes would pass a limit of the shard
pub data IsCommitAllRefusal (o : Opening) (limits : Limits) (s : ShardRecord) (run : Run) (tx : PendingView) : Refusal → Type 0 where
  no_memory : IsCommitAllRefusal o limits s run tx OutOfMemory
  stopped : {r : Refusal} → IsStopped o s run tx r → IsCommitAllRefusal o limits s run tx r
  full : IsClear o s run tx → (HasRoom o limits s run tx.changes → ⊥) → IsCommitAllRefusal o limits s run tx ShardFull

-- ---- over the rows that the shard holds
