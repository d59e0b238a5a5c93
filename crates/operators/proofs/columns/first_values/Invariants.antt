use Rattle.std.proofs.Common.{◌≡◌, take, length}
use Rattle.operators.proofs.columns.first_values.Given as goal

-- the first values are there still
abbrev pub invariant-loop-row : goal.invariant-loop-row
invariant-loop-row l = take l.count l.row ≡ take l.count l.fn.row

abbrev pub decreases-loop-row : goal.decreases-loop-row
decreases-loop-row l = length l.row
