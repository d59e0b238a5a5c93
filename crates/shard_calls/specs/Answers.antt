-- What executing a text answers, or the refusal for its cause.
use Rattle.std.specs.Prelude.{◌≡◌, ℕ, ◌+◌, ◌≤◌, Bool, true, false, List, [], ◌∷◌, ◌++◌, length, filter, Contains, Some, Ok, Err}
use Rattle.std.specs.List.{AllByRecursion, AllZip}
use mathlib.Core.List.{IsPrefix}
use Rattle.vt_value.specs.declared.refusal.Refusal.{Refusal}
use Rattle.vt_value.specs.declared.refusal.Refusal.TheVariants.{OutOfMemory, SeveralShards, DuplicateKey, BufferFull, ShardFull}
use Rattle.vschema.specs.declared.schema.Table.{Table}
use Rattle.vschema.specs.declared.schema.Query.{Query}
use Rattle.vschema.specs.declared.schema.Typed.{Typed}
use Rattle.vschema.specs.declared.schema.Typed.TheVariants as typed
use Rattle.vschema.specs.declared.changes.Write.{Write}
use Rattle.vschema.specs.declared.changes.RowChange.{RowChange}
use Rattle.shard.specs.Queries.{Allowed}
use Rattle.shard.specs.Writes.{written_table, changes_of}
use Rattle.planner.specs.declared.routes.Route.{Route}
use Rattle.planner.specs.Routes.{table_at, route_of, write_route, takes}
use Rattle.journal.specs.Runs.{IsLegal, by_session}
use Rattle.journal.specs.Views.{PassView}
use Rattle.shard.specs.Mode.{Mode}
use Rattle.shard.specs.Mode.TheVariants.{Following, Serving}
use Rattle.shard.specs.ShardRecord.{ShardRecord}
use Rattle.shard.specs.Entry.{Entry}
use Rattle.shard.specs.Runs.{Run, Opening, IsShardOf, database, shard_rows, mode, answers_queries, entries_on}
use Rattle.shard.specs.Limits.{Limits}
use Rattle.shard.specs.Law.{Serves}
use Rattle.serving.specs.Partitions.{Seat, IsPartition, AreOf}
use Rattle.shard.specs.Entries.{MayFollow, HasLooked, commit_of}
use Rattle.shard.specs.Commits.{HasCommitted, HasRoom}
use Rattle.shard_calls.specs.declared.reply.Selected.{Selected}
use Rattle.shard_calls.specs.declared.reply.Answer.TheVariants.{Rows, Count}
use Rattle.shard_calls.specs.declared.reply.ShardRead.{ShardRead}
use Rattle.shard_calls.specs.declared.reply.Reply.{Reply}
use Rattle.shard.specs.Seats.{seat_of}
use Rattle.shard_calls.specs.Alone.{GivesOver}
use Rattle.shard_calls.specs.Mix.{MixPart, Mix, mixed_rows}

-- the pass once its session's next statement is numbered
abbrev pub counted : PassView Entry → PassView Entry
counted p = record p { statements = p.statements + 1 }

-- the seats of a partition that a statement on the table with this route needs
abbrev pub needed : Table → Route → List Seat → List Seat
needed t r seats = filter (λ seat. takes t r seat.1) seats

-- The pass has gone on by looks alone: it has seen a legal run, which begins with what it had seen and has no other commit of its session.
pub record HasGoneOn (o : Opening) (p : PassView Entry) (added : List (ℕ × ℕ)) (now : PassView Entry) : Type 0 where
  pub legal : IsLegal (MayFollow o) now.seen
  pub later : IsPrefix p.seen now.seen
  pub own : (n : ℕ) → p.session ≡ Some n → filter (by_session commit_of n) now.seen ≡ filter (by_session commit_of n) p.seen
  pub pass : now ≡ record p { seen = now.seen; looks = p.looks ++ added }

-- the same by some looks
abbrev pub HasGone : Opening → PassView Entry → PassView Entry → Type 0
HasGone o p now = (added : List (ℕ × ℕ)) × HasGoneOn o p added now

-- A shard was read at the end of the part's run, by one of these looks: it serves then, in the part's range, and has so many entries.
pub record IsShardRead (o : Opening) (keyspace : ℕ) (looks : List (ℕ × ℕ)) (part : MixPart) (r : ShardRead) : Type 0 where
  pub looked : Contains looks (r.slot, length part.run)
  pub shard : ShardRecord
  pub serves : Serves o part.run shard
  pub slot : shard.slot ≡ r.slot
  pub place : shard.place ≡ record { keyspace = keyspace; range = part.range }
  pub entries : r.entries ≡ length (entries_on r.slot part.run)

-- The rows are some that the query may answer over a database of which each range is as some run between the call and its end left it.
-- Just the shards of the query's route were read, each at the run of its range, by a look of this call.
pub record IsSelected (o : Opening) (p : PassView Entry) (t : Table) (query : Query) (selected : Selected) (reads : List ShardRead) (now : PassView Entry) : Type 0 where
  pub table : selected.table ≡ query.table
  pub join : selected.join ≡ query.join
  pub items : selected.items ≡ query.items
  pub qualified : selected.qualified ≡ query.qualified
  pub added : List (ℕ × ℕ)
  pub gone : HasGoneOn o p added now
  pub parts : List MixPart
  pub mix : Mix p.seen now.seen parts
  pub allowed : Allowed query (mixed_rows o t.keyspace parts) selected.rows
  pub routed : AllZip (IsShardRead o t.keyspace added) (filter (λ part. takes t (route_of t query.join query.filter) part.range) parts) reads

-- the reply has the rows of the query
pub data HasRead (o : Opening) (p : PassView Entry) (query : Query) : Reply → PassView Entry → Type 0 where
  read : {selected : Selected} {reads : List ShardRead} {now : PassView Entry} → IsSelected o p (table_at o.schema query.table) query selected reads now
      → HasRead o p query (record { answer = Rows selected; reads = reads }) now

-- a shard of the run that serves, or has served: one that is no target which follows
pub record HasServed (o : Opening) (run : Run) (s : ShardRecord) : Type 0 where
  pub of_run : IsShardOf o run s
  pub past : mode o run s.slot ≡ Following → ⊥

-- At a moment between, the seat was that of such a shard.
pub record WasFound (o : Opening) (before now : Run) (seat : Seat) : Type 0 where
  pub run : Run
  pub since : IsPrefix before run
  pub until : IsPrefix run now
  pub shard : ShardRecord
  pub served : HasServed o run shard
  pub seated : seat_of shard ≡ seat

-- A partition of the keyspace, each of whose shards was found at a moment between.
pub record IsFoundPartition (o : Opening) (before now : Run) (keyspace : ℕ) (seats : List Seat) : Type 0 where
  pub partition : IsPartition seats
  pub home : AreOf keyspace seats
  pub found : AllByRecursion (WasFound o before now) seats

-- A shard that a statement on the table with this route needs by this partition didn't answer at some moment between: its mode was none of
-- these. It is a shard of the run, which had served.
pub record IsHeldUp (o : Opening) (t : Table) (r : Route) (answers : Mode → Bool) (before now : List Entry) (seats : List Seat) : Type 0 where
  pub seat : Seat
  pub needed : Contains (needed t r seats) seat
  pub run : List Entry
  pub since : IsPrefix before run
  pub until : IsPrefix run now
  pub shard : ShardRecord
  pub served : HasServed o run shard
  pub on_slot : shard.slot ≡ seat.0
  pub in_place : shard.place ≡ record { keyspace = t.keyspace; range = seat.1 }
  pub held_up : answers (mode o run shard.slot) ≡ false

-- A statement was held up so by some partition of its keyspace, each of whose shards was found.
pub record IsHeldUpBy (o : Opening) (t : Table) (r : Route) (answers : Mode → Bool) (before now : Run) : Type 0 where
  pub seats : List Seat
  pub found : IsFoundPartition o before now t.keyspace seats
  pub held_up : IsHeldUp o t r answers before now seats

-- Why a query is refused: a growth was refused; or the buffer was full when one of its shards didn't serve, by a partition of its keyspace
-- whose shards were found.
pub data MayReadRefuse (o : Opening) (p : PassView Entry) (query : Query) : Refusal → PassView Entry → Type 0 where
  no_memory : {now : PassView Entry} → HasGone o p now → MayReadRefuse o p query OutOfMemory now
  buffer_full : {now : PassView Entry} → HasGone o p now
      → IsHeldUpBy o (table_at o.schema query.table) (route_of (table_at o.schema query.table) query.join query.filter) answers_queries p.seen now.seen
      → MayReadRefuse o p query BufferFull now

-- the seats that a write needs by a partition
abbrev pub needed_by : Opening → Write → List Seat → List Seat
needed_by o w seats = needed (table_at o.schema (written_table w)) (write_route o.schema w) seats

-- by some partition a statement on the table with this route needs this shard alone
pub record NeedsAlone (table : Table) (route : Route) (s : ShardRecord) : Type 0 where
  pub seats : List Seat
  pub partition : IsPartition seats
  pub keyspace : s.place.keyspace ≡ table.keyspace
  pub only : needed table route seats ≡ seat_of s ∷ []

abbrev pub WritesAlone : Opening → Write → ShardRecord → Type 0
WritesAlone o w s = NeedsAlone (table_at o.schema (written_table w)) (write_route o.schema w) s

-- A write that needs no shard counts 0 and does nothing, which is what it means over the one database. Another needs one shard, on which the
-- session has committed it, after looks at most. The reply counts what it means over the one database right before its entry, which leads to
-- the one right after it.
pub data HasWritten (o : Opening) (limits : Limits) (p : PassView Entry) (w : Write) : Reply → PassView Entry → Type 0 where
  nowhere : {now : PassView Entry} (seats : List Seat) → IsPartition seats → needed_by o w seats ≡ [] → HasGone o p now
      → GivesOver o.schema (database o now.seen) (typed.Write w) (Count 0) (database o now.seen)
      → HasWritten o limits p w (record { answer = Count 0; reads = [] }) now
  wrote : {count : ℕ} {since now : PassView Entry} (s : ShardRecord) → WritesAlone o w s → HasGone o p since → (entry : HasCommitted o limits s since w count now)
      → GivesOver o.schema (database o entry.before) (typed.Write w) (Count count) (database o now.seen)
      → HasWritten o limits p w (record { answer = Count count; reads = [] }) now

-- what a typed statement gives: a query has its rows, a write is committed; SET NAMES counts 0, and no shard is used
pub data Gives (o : Opening) (limits : Limits) (p : PassView Entry) : Typed → Reply → PassView Entry → Type 0 where
  selects : {query : Query} {reply : Reply} {now : PassView Entry} → HasRead o p query reply now → Gives o limits p (typed.Select query) reply now
  writes : {w : Write} {reply : Reply} {now : PassView Entry} → HasWritten o limits p w reply now → Gives o limits p (typed.Write w) reply now
  sets_names : Gives o limits p typed.SetNames (record { answer = Count 0; reads = [] }) p

-- a shard that takes commits
abbrev pub is_writable : Mode → Bool
is_writable Serving = true
is_writable _ = false

-- Why a shard that takes commits refuses a write at a run: want of memory; the write has a primary key that is there already in the one
-- database; its changes would pass a limit of the shard.
pub data IsShardRefusal (o : Opening) (limits : Limits) (s : ShardRecord) (run : Run) (w : Write) : Refusal → Type 0 where
  no_memory : IsShardRefusal o limits s run w OutOfMemory
  duplicate : changes_of o.schema w (database o run) ≡ Err DuplicateKey → IsShardRefusal o limits s run w DuplicateKey
  full : (changes : List RowChange) → changes_of o.schema w (shard_rows o run s) ≡ Ok changes → (HasRoom o limits s run changes → ⊥)
      → IsShardRefusal o limits s run w ShardFull

-- Why a write is refused: a growth was refused; by a partition of its keyspace, whose shards were found, it needs more than one, or the shard
-- that it needs took no commits when the buffer was full; or its one shard, which serves at a look and isn't frozen, refuses it.
pub data MayWriteRefuse (o : Opening) (limits : Limits) (p : PassView Entry) (w : Write) : Refusal → PassView Entry → Type 0 where
  no_memory : {now : PassView Entry} → HasGone o p now → MayWriteRefuse o limits p w OutOfMemory now
  several : {now : PassView Entry} (seats : List Seat)
      → IsFoundPartition o p.seen now.seen (table_at o.schema (written_table w)).keyspace seats → 2 ≤ length (needed_by o w seats)
      → HasGone o p now → MayWriteRefuse o limits p w SeveralShards now
  buffer_full : {now : PassView Entry} → HasGone o p now
      → IsHeldUpBy o (table_at o.schema (written_table w)) (write_route o.schema w) is_writable p.seen now.seen
      → MayWriteRefuse o limits p w BufferFull now
  refused : {r : Refusal} {since now : PassView Entry} (s : ShardRecord) → WritesAlone o w s → HasGone o p since → HasLooked o s.slot since now
      → HasServed o now.seen s → mode o now.seen s.slot ≡ Serving → IsShardRefusal o limits s now.seen w r → MayWriteRefuse o limits p w r now
