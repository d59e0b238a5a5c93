use Rattle.std.proofs.Common.{◌≡◌, ◌-◌, length, map, take}
use Rattle.std.specs.Vec.Iter.{into_iter_items}
use Rattle.serving.specs.Partitions.{Seat}
use Rattle.route_engine.specs.Seats.{seat_of}
use Rattle.admin.proofs.router.Empty.{seats_from}
use Rattle.admin.proofs.router.setup.empty_shards.Given as goal

-- the seats that are left, and the shards so far
abbrev pub invariant-loop-shard : goal.invariant-loop-shard
invariant-loop-shard g l = record {
  seats : into_iter_items l.seats ≡ seats_from l.shard-index (length l.shards - l.shard-index);
  held : map {B = Seat} (λ h. h.value) l.held.items ≡ map seat_of (take l.shard-index l.shards);
}
