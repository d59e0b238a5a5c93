use Rattle.std.proofs.Common.{◌≡◌, take}
use Rattle.aggregate.specs.Aggregates.{sizes}
use Rattle.test_low.proofs.cases.aggregates.sized.Given as goal

abbrev pub invariant-loop-value : goal.invariant-loop-value
invariant-loop-value l = l.all ≡ sizes (take l.value-index l.values)
