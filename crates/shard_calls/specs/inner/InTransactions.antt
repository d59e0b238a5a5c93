-- What the engine's own functions do in an open transaction.
use Rattle.std.specs.Prelude.{◌≡◌, ◌≢◌, ◌⊎◌, ℕ, ◌≤◌, Bool, true, false, List, [], ◌∷◌, length, Option, Some, None, Result, Ok, Err, if◌then◌else◌}
use Rattle.vt_value.specs.declared.refusal.Refusal.{Refusal}
use Rattle.vt_value.specs.declared.refusal.Refusal.TheVariants.{OutOfMemory, Conflict, ShardMoved, ShardFull}
use Rattle.vt_value.specs.Values.{Row}
use Rattle.vschema.specs.declared.schema.Query.{Query}
use Rattle.vschema.specs.declared.schema.Table.{Table}
use Rattle.vschema.specs.declared.schema.Typed.{Typed}
use Rattle.vschema.specs.declared.schema.Typed.TheVariants.{Commit, Rollback}
use Rattle.vschema.specs.declared.changes.Write.{Write}
use Rattle.planner.specs.declared.routes.Route.{Route}
use Rattle.journal.specs.Views.{PassView}
use Rattle.serving.specs.Partitions.{Seat, IsPartition}
use Rattle.shard.specs.ShardRecord.{ShardRecord}
use Rattle.shard.specs.Entry.{Entry}
use Rattle.shard.specs.Runs.{Opening}
use Rattle.shard.specs.Legal.{IsOnItsSlot}
use Rattle.shard.specs.Limits.{Limits}
use Rattle.shard.specs.Entries.{HasLooked}
use Rattle.shard.specs.Transactions.{PendingView, IsClear, HasReadIn, HasWrittenIn, HasCommittedAll, IsReadRefusal, IsWriteRefusal, IsCommitAllRefusal}
use Rattle.shard_calls.specs.declared.reply.Reply.{Reply}
use Rattle.shard_calls.specs.declared.reply.ShardRead.{ShardRead}
use Rattle.shard_calls.specs.Answers.{needed, HasServed}
use Rattle.shard_calls.specs.Transactions.{Transaction, GivesIn, IsRefusedIn}
use Rattle.shard_calls.specs.Pendings.{BoundView, OpenView, Represents, bound_of}

-- a refusal that ends an open transaction
abbrev pub ends : Refusal → Bool
ends Conflict = true
ends ShardMoved = true
ends ShardFull = true
ends _ = false

-- what a refusal leaves of an open transaction
abbrev pub left_by : Refusal → Transaction → Option Transaction
left_by e t = if ends e then None else Some t

-- a statement on the table with this route needs no seat of some partition
abbrev pub NeedsNoSeat : Table → Route → Type 0
NeedsNoSeat t r = (seats : List Seat) × IsPartition seats × (needed t r seats ≡ [])

-- or this one alone, of the table's keyspace, by the partition that is kept
pub record IsSeatOf (t : Table) (r : Route) (b : BoundView) : Type 0 where
  pub keyspace : b.keyspace ≡ t.keyspace
  pub partition : IsPartition b.seats
  pub only : needed t r b.seats ≡ b.seat ∷ []

-- or one that isn't this one, or several: by the partition that is kept, if the table is of its keyspace
pub record NeedsOther (t : Table) (r : Route) (b : BoundView) : Type 0 where
  pub seats : List Seat
  pub partition : IsPartition seats
  pub kept : b.keyspace ≡ t.keyspace → seats ≡ b.seats
  pub some : needed t r seats ≡ [] → ⊥
  pub other : b.keyspace ≡ t.keyspace → needed t r seats ≡ b.seat ∷ [] → ⊥

-- A query of a transaction was read on its shard at a look.
pub record HasReadAt (o : Opening) (b : BoundView) (p : PassView Entry) (v : PendingView) (q : Query) (rows : List Row) (reads : List ShardRead)
    (now : PassView Entry) (w : PendingView) : Type 0 where
  pub shard : ShardRecord
  pub is : bound_of shard b.seats ≡ b
  pub stands : IsOnItsSlot o now.seen shard
  pub served : HasServed o now.seen shard
  pub looked : HasLooked o shard.slot p now
  pub entries : ℕ
  pub reads_are : reads ≡ record { slot = shard.slot; entries = entries } ∷ []
  pub read : HasReadIn o shard v now.seen q rows entries w

-- Why it isn't: a growth was refused before any look; or the shard refuses it at a look.
pub data IsNotReadAt (o : Opening) (b : BoundView) (p : PassView Entry) (v : PendingView) : Refusal → PassView Entry → Type 0 where
  no_memory : IsNotReadAt o b p v OutOfMemory p
  refused : {e : Refusal} {now : PassView Entry} (s : ShardRecord) → bound_of s b.seats ≡ b → IsOnItsSlot o now.seen s → HasServed o now.seen s
      → HasLooked o s.slot p now
      → IsReadRefusal o s now.seen v e → IsNotReadAt o b p v e now

-- A write of a transaction was made on its shard at a look.
pub record HasWrittenAt (o : Opening) (b : BoundView) (p : PassView Entry) (v : PendingView) (write : Write) (count : ℕ) (now : PassView Entry)
    (w : PendingView) : Type 0 where
  pub shard : ShardRecord
  pub is : bound_of shard b.seats ≡ b
  pub stands : IsOnItsSlot o now.seen shard
  pub served : HasServed o now.seen shard
  pub looked : HasLooked o shard.slot p now
  pub wrote : HasWrittenIn o shard v now.seen write count w

-- or the shard refuses it there
pub record IsNotWrittenAt (o : Opening) (b : BoundView) (p : PassView Entry) (v : PendingView) (write : Write) (e : Refusal) (now : PassView Entry) : Type 0 where
  pub shard : ShardRecord
  pub is : bound_of shard b.seats ≡ b
  pub stands : IsOnItsSlot o now.seen shard
  pub served : HasServed o now.seen shard
  pub looked : HasLooked o shard.slot p now
  pub why : IsWriteRefusal o shard now.seen v write e

-- A transaction was committed on its shard: one that has only read by a look, by which it is clear, and another by its entry.
pub data HasCommittedAt (o : Opening) (limits : Limits) (b : BoundView) (p : PassView Entry) (v : PendingView) (now : PassView Entry) : Type 0 where
  read : (s : ShardRecord) → bound_of s b.seats ≡ b → IsOnItsSlot o now.seen s → HasLooked o s.slot p now → IsClear o s now.seen v → v.writes ≡ []
      → HasCommittedAt o limits b p v now
  wrote : (s : ShardRecord) → bound_of s b.seats ≡ b → IsOnItsSlot o now.seen s → v.writes ≢ [] → HasCommittedAll o limits s p v now
      → HasCommittedAt o limits b p v now

-- or the shard refuses it at a look; for a limit only one that has written
pub record IsNotCommittedAt (o : Opening) (limits : Limits) (b : BoundView) (p : PassView Entry) (v : PendingView) (e : Refusal) (now : PassView Entry) : Type 0 where
  pub shard : ShardRecord
  pub is : bound_of shard b.seats ≡ b
  pub stands : IsOnItsSlot o now.seen shard
  pub served : HasServed o now.seen shard
  pub looked : HasLooked o shard.slot p now
  pub why : IsCommitAllRefusal o limits shard now.seen v e
  pub wrote : e ≡ ShardFull → v.writes ≢ []

-- a statement that closes an open transaction once it is answered
abbrev pub closes : Typed → Bool
closes Commit = true
closes Rollback = true
closes _ = false

-- a transaction stays open after an answered statement that doesn't close it, and after a refusal that doesn't end it
abbrev pub stays_open : Bool → Result Reply Refusal → Bool
stays_open c (Ok reply) = if c then false else true
stays_open c (Err e) = if ends e then false else true

-- what an answered statement leaves of what the program keeps
abbrev pub kept_by : Typed → OpenView → Option OpenView
kept_by t v = if closes t then None else Some v

-- Whatever open transaction the program keeps by this, the statement gives this reply in it, and what is kept then stands for what it leads to.
pub record GoesOnIn (o : Opening) (limits : Limits) (p : PassView Entry) (v : OpenView) (typed : Typed) (reply : Reply) (now : PassView Entry)
    (w : Option OpenView) : Type 0 where
  pub from : (t : Transaction) → Represents o p (Some v) (Some t)
      → (u : Option Transaction) × GivesIn o limits p t typed reply (record { pass = now; tx = u }) × Represents o now w u

-- or it is refused in it
pub record IsRefusedStep (o : Opening) (limits : Limits) (p : PassView Entry) (v : OpenView) (typed : Typed) (e : Refusal) (now : PassView Entry) : Type 0 where
  pub from : (t : Transaction) → Represents o p (Some v) (Some t) → IsRefusedIn o limits p t typed e (record { pass = now; tx = left_by e t })
