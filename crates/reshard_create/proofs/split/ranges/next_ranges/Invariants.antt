use Rattle.std.proofs.Common.{◌≡◌, ◌++◌, map, take}
use Rattle.serving.specs.Partitions.{Seat}
use Rattle.reshard_create.proofs.split.ranges.next_ranges.Given as goal

abbrev pub invariant-loop-part : goal.invariant-loop-part
invariant-loop-part g l = l.ranges.items ≡ map (λ (p : Seat). p.1) (take l.part-index l.parts)

abbrev pub invariant-loop-target : goal.invariant-loop-target
invariant-loop-target g l = l.ranges.items ≡ map (λ (p : Seat). p.1) l.parts ++ take l.target-index l.targets
