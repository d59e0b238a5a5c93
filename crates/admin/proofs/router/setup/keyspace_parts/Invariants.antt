use Rattle.std.proofs.Common.{◌≡◌, map, filter, take, ◌==◌}
use Rattle.route_engine.specs.Seats.{seat_of}
use Rattle.admin.proofs.router.setup.keyspace_parts.Given as goal

-- the parts of the shards so far
abbrev pub invariant-loop-i : goal.invariant-loop-i
invariant-loop-i g l = l.parts.items ≡ map seat_of (filter (λ s. s.place.keyspace == l.keyspace) (take l.i l.shards))
