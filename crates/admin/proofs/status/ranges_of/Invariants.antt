use Rattle.std.proofs.Common.{◌≡◌, map, take}
use Rattle.serving.specs.Partitions.{Seat}
use Rattle.admin.proofs.status.ranges_of.Given as goal

abbrev pub invariant-loop-part : goal.invariant-loop-part
invariant-loop-part g l = l.ranges.items ≡ map (λ (p : Seat). p.1) (take l.part-index l.parts)
