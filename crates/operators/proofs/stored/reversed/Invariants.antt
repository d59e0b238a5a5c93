use Rattle.std.proofs.Common.{◌≡◌, ◌++◌, length, reverse}
use Rattle.operators.proofs.stored.reversed.Given as goal

abbrev pub invariant-loop-row : goal.invariant-loop-row
invariant-loop-row l = l.list.items ++ reverse l.rest ≡ reverse l.fn.rows

abbrev pub decreases-loop-row : goal.decreases-loop-row
decreases-loop-row l = length l.rest
