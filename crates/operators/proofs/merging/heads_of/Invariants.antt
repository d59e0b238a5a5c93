use Rattle.std.proofs.Common.{◌≡◌, map}
use Rattle.operators.specs.inner.Merges.{head_rows}
use Rattle.operators.proofs.merging.heads_of.Given as goal

-- the heads have the rows of the inputs so far
abbrev pub invariant-loop-input : goal.invariant-loop-input
invariant-loop-input g l = map (head_rows g.O.Operator.to_come) l.heads.items ≡ map g.O.Operator.to_come l.yielded
