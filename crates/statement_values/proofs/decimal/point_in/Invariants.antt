use Rattle.statement_values.proofs.Points.{NoPoint}
use Rattle.statement_values.proofs.decimal.point_in.Given as goal

abbrev pub invariant-loop-at : goal.invariant-loop-at
invariant-loop-at l = NoPoint l.text l.at
