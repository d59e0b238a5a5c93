-- How a transaction as the program keeps it stands for a session's transaction.
use Rattle.std.specs.Prelude.{◌≡◌, ℕ, ◌≤◌, IsTrue, List, [], ◌∷◌, ◌++◌, length, filter, Contains, Option, Some, None}
use Rattle.std.specs.List.{AllByRecursion}
use mathlib.Core.List.{IsPrefix}
use Rattle.vschema.specs.declared.schema.Query.{Query}
use Rattle.vschema.specs.declared.schema.Typed.TheVariants as typed
use Rattle.vschema.specs.declared.changes.Write.{Write}
use Rattle.vschema.specs.declared.changes.RowChange.{RowChange}
use Rattle.vschema.specs.Database.{all_applied}
use Rattle.vschema.specs.Sources.{source_tables, SourcesThere, JoinsInPlace}
use Rattle.vschema.specs.TypedWrites.{IsTypedWrite}
use Rattle.shard.specs.Queries.{Allowed}
use Rattle.shard.specs.Writes.{written_table}
use Rattle.journal.specs.Runs.{IsLegal, by_session}
use Rattle.journal.specs.Views.{PassView}
use Rattle.shard.specs.Mode.TheVariants.{Serving}
use Rattle.shard.specs.ShardRecord.{ShardRecord}
use Rattle.shard.specs.Entry.{Entry}
use Rattle.shard.specs.Runs.{Run, Opening, database, shard_rows, mode, stored_on}
use Rattle.shard.specs.Legal.{IsOnItsSlot, IsChangeOf}
use Rattle.serving.specs.Partitions.{Seat, IsPartition}
use Rattle.shard.specs.Touch.{Touch}
use Rattle.shard.specs.Entries.{MayFollow, commit_of}
use Rattle.shard.specs.Transactions.{PendingView, nothing_done, is_touched, IsPending}
use Rattle.shard_calls.specs.declared.reply.Selected.{Selected}
use Rattle.shard_calls.specs.declared.reply.Answer.TheVariants.{Rows, Count}
use Rattle.shard.specs.Seats.{seat_of}
use Rattle.shard_calls.specs.Answers.{WritesAlone}
use Rattle.shard_calls.specs.Alone.{GivesOver}
use Rattle.shard_calls.specs.Transactions.{TransactionStatement, Transaction, ReadsAlone, NeedsNone, tables_of, used}

-- the keyspace and the seat of the shard that an open transaction is bound to, and the partition by which it was needed
pub record BoundView : Type 0 where
  pub keyspace : ℕ
  pub seat : Seat
  pub seats : List Seat

-- the shard that an open transaction is bound to, if it is, and what it has done there
pub record OpenView : Type 0 where
  pub bound : Option BoundView
  pub pending : PendingView

abbrev pub bound_of : ShardRecord → List Seat → BoundView
bound_of s seats = record { keyspace = s.place.keyspace; seat = seat_of s; seats = seats }

-- a statement that needs no shard gives the same over the one database of every run, and leaves it
pub record IsAnywhere (o : Opening) (step : TransactionStatement) : Type 0 where
  pub none : NeedsNone o step.typed
  pub on : step.on ≡ None
  pub same : (run : Run) → IsLegal (MayFollow o) run → GivesOver o.schema (database o run) step.typed step.answer (database o run)

-- The statements gave their answers over the rows that the run leaves on the shard with the changes before each; these are the writes and the
-- changes that they made. Their tables are touched.
pub data GaveOnShard (o : Opening) (s : ShardRecord) (run : Run) (touched : List Touch) : List TransactionStatement → List Write → List RowChange → Type 0 where
  none : GaveOnShard o s run touched [] [] []
  anywhere : {steps : List TransactionStatement} {writes : List Write} {changes : List RowChange} (step : TransactionStatement) → GaveOnShard o s run touched steps writes changes
      → IsAnywhere o step → GaveOnShard o s run touched (steps ++ step ∷ []) writes changes
  read : {steps : List TransactionStatement} {writes : List Write} {changes : List RowChange} (q : Query) (selected : Selected) (seen : Run)
      → GaveOnShard o s run touched steps writes changes → ReadsAlone o q s → SourcesThere (length o.schema.tables) q → JoinsInPlace o.schema q
      → AllByRecursion (λ n. IsTrue (is_touched touched n)) (source_tables q)
      → selected.table ≡ q.table → selected.join ≡ q.join → selected.items ≡ q.items → selected.qualified ≡ q.qualified
      → Allowed q (all_applied changes (shard_rows o run s)) selected.rows
      → GaveOnShard o s run touched (steps ++ record { typed = typed.Select q; answer = Rows selected; on = Some s; seen = seen } ∷ []) writes changes
  wrote : {steps : List TransactionStatement} {writes : List Write} {changes : List RowChange} (w : Write) (more : List RowChange) (seen : Run)
      → GaveOnShard o s run touched steps writes changes → WritesAlone o w s → IsTypedWrite o.schema w
      → IsTrue (is_touched touched (written_table w)) → IsChangeOf o.schema w (all_applied changes (shard_rows o run s)) more
      → GaveOnShard o s run touched (steps ++ record { typed = typed.Write w; answer = Count (length more); on = Some s; seen = seen } ∷ [])
      (writes ++ w ∷ []) (changes ++ more)

-- a table was touched by a statement on the shard, which served at the run that it had seen, after which the session has no commit
pub record IsTouchOf (o : Opening) (s : ShardRecord) (session : Option ℕ) (at : Run) (steps : List TransactionStatement) (t : Touch) : Type 0 where
  pub step : TransactionStatement
  pub is : Contains steps step
  pub on : step.on ≡ Some s
  pub table : Contains (tables_of step.typed) t.table
  pub before : IsPrefix step.seen at
  pub serves : mode o step.seen s.slot ≡ Serving
  pub stored : t.stored ≡ length (stored_on s.slot step.seen)
  pub own : (n : ℕ) → session ≡ Some n → filter (by_session commit_of n) at ≡ filter (by_session commit_of n) step.seen

-- the table was touched by then
pub record WasTouched (s : ShardRecord) (touched : List Touch) (n : ℕ) (seen : Run) : Type 0 where
  pub touch : Touch
  pub is : Contains touched touch
  pub table : touch.table ≡ n
  pub stored : touch.stored ≤ length (stored_on s.slot seen)

-- a statement that used the shard has touched its tables
abbrev pub HasTouched : ShardRecord → List Touch → TransactionStatement → Type 0
HasTouched s touched step = (n : ℕ) → step.on ≡ Some s → Contains (tables_of step.typed) n → WasTouched s touched n step.seen

-- bound to a shard of the partition that it keeps, if it has gone on up to the run of the transaction, which the pass has seen, and has made
-- no commit since
pub record IsBound (o : Opening) (p : PassView Entry) (v : OpenView) (t : Transaction) : Type 0 where
  pub shard : ShardRecord
  pub stands : IsOnItsSlot o t.at shard
  pub serves : mode o t.at shard.slot ≡ Serving
  pub seats : List Seat
  pub bound : v.bound ≡ Some (bound_of shard seats)
  pub partition : IsPartition seats
  pub seated : Contains seats (seat_of shard)
  pub kept : t.kept ≡ Some (record { keyspace = shard.place.keyspace; seats = seats })
  pub uses : Contains (used t.steps) shard
  pub pending : IsPending o shard t.at v.pending
  pub told : GaveOnShard o shard t.at v.pending.touched t.steps v.pending.writes v.pending.changes
  pub touches : AllByRecursion (IsTouchOf o shard p.session t.at t.steps) v.pending.touched
  pub trailing : AllByRecursion (HasTouched shard v.pending.touched) t.steps
  pub seen : IsPrefix t.at p.seen
  pub own : (n : ℕ) → p.session ≡ Some n → filter (by_session commit_of n) p.seen ≡ filter (by_session commit_of n) t.at

-- What the program keeps stands for the session's transaction: none is open; an open one has used no shard; or it is bound to one.
pub data Represents (o : Opening) (p : PassView Entry) : Option OpenView → Option Transaction → Type 0 where
  closed : Represents o p None None
  unbound : {t : Transaction} → IsLegal (MayFollow o) t.at → AllByRecursion (IsAnywhere o) t.steps → t.kept ≡ None
      → Represents o p (Some (record { bound = None; pending = nothing_done })) (Some t)
  bound : {v : OpenView} {t : Transaction} → IsBound o p v t → Represents o p (Some v) (Some t)

-- it stands for some transaction of the pass
abbrev pub IsOf : Opening → Option OpenView → PassView Entry → Type 0
IsOf o v p = (t : Option Transaction) × Represents o p v t
