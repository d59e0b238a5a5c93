use Rattle.std.proofs.Common.{◌≡◌, ◌++◌, length}
use Rattle.prepared_statements.specs.Holes.{none_each}
use Rattle.prepared_statements.proofs.long_data.none_each.Given as goal

abbrev pub invariant-loop-left : goal.invariant-loop-left
invariant-loop-left l = l.none.items ++ none_each l.left ≡ none_each l.fn.pieces

abbrev pub decreases-loop-left : goal.decreases-loop-left
decreases-loop-left l = length l.left
