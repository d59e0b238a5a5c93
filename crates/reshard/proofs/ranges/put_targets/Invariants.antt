use Rattle.std.proofs.Common.{◌≡◌, ◌++◌, map, take}
use Rattle.reshard.proofs.ranges.put_targets.Given as goal

-- the ranges so far
abbrev pub invariant-loop-target : goal.invariant-loop-target
invariant-loop-target g l = l.ranges.items ≡ l.fn.ranges.items ++ map (λ t. t.member.which.place.range) (take l.target-index l.targets)
