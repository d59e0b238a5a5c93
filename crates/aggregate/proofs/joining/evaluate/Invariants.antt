use Rattle.std.proofs.Common.{◌≡◌, take}
use Rattle.aggregate.proofs.joining.evaluate.Given as goal

abbrev pub invariant-loop-value : goal.invariant-loop-value
invariant-loop-value g l = l.part ≡ g.A.Aggregate.part_of (take l.value-index l.values)
