use Rattle.std.proofs.Common.{◌≡◌, ◌++◌, length}
use Rattle.operators.proofs.pulling.pull_all.Given as goal

-- the rows so far, with those still to come, are all
abbrev pub invariant-loop-rows : goal.invariant-loop-rows
invariant-loop-rows g l = l.rows.items ++ g.O.Operator.to_come l.input ≡ g.O.Operator.to_come l.fn.input

abbrev pub decreases-loop-rows : goal.decreases-loop-rows
decreases-loop-rows g l = length (g.O.Operator.to_come l.input)
