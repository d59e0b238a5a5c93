-- Where a call looks that begins a workflow, or takes one up.
use Rattle.std.specs.Prelude.{ℕ, ◌++◌, List, map, IsPermutation}
use Rattle.std.specs.List.{AllByRecursion}
use mathlib.Core.List.{IsPrefix}
use Rattle.journal.specs.Views.{PassView}
use Rattle.serving.specs.Partitions.{Seat, IsPartition, AreOf}
use Rattle.shard_run.specs.declared.ShardRecord.{ShardRecord}
use Rattle.shard_run.specs.declared.Entry.{Entry}
use Rattle.shard_run.specs.Runs.{Opening}
use Rattle.shard.specs.Seats.{seat_of}
use Rattle.reshard_cutover.specs.Turns.{HasLookedAt}
use Rattle.reshard_create.specs.Begun.{WasSeen, IsNotFollowing}

abbrev pub slots_of : List Seat → List ℕ
slots_of seats = map (λ seat. seat.0) seats

-- the pass looked at the shards on the first of these slots, as far as it came, and at no other
pub record HasLookedAlong (slots : List ℕ) (p now : PassView Entry) : Type 0 where
  pub first : List ℕ
  pub part : IsPrefix first slots
  pub looked : HasLookedAt first p now

-- the pass looked once at the shard on each of these slots, in some order, and at no other
pub record HasLookedAtEach (slots : List ℕ) (p now : PassView Entry) : Type 0 where
  pub order : List ℕ
  pub once : IsPermutation order slots
  pub looked : HasLookedAt order p now

-- The pass looked once at each of some parts of one partition of the keyspace, and at no other shard. Each of them is a shard of the run that was
-- found in its place, and didn't follow. So no shard was looked at twice, as it would be for a change of its mode.
pub record HasLookedAtParts (o : Opening) (keyspace : ℕ) (p now : PassView Entry) : Type 0 where
  pub shards : List ShardRecord
  pub rest : List Seat
  pub partition : IsPartition (map seat_of shards ++ rest)
  pub home : AreOf keyspace (map seat_of shards ++ rest)
  pub found : AllByRecursion (WasSeen o p now IsNotFollowing) shards
  pub looked : HasLookedAt (map (λ s. s.slot) shards) p now
