use Rattle.std.proofs.Common.{◌≡◌, length}
use Rattle.resultset.proofs.Pulls.{bytes_of, number_past}
use Rattle.resultset.proofs.pulling.fill_rows.Given as goal

abbrev pub invariant-loop-row : goal.invariant-loop-row
invariant-loop-row g l = record {
  bytes : bytes_of l.filling l.next (g.R.Operator.to_come l.rows) ≡ bytes_of l.fn.filling l.number (g.R.Operator.to_come l.fn.rows);
  number : number_past l.next (g.R.Operator.to_come l.rows) ≡ number_past l.number (g.R.Operator.to_come l.fn.rows);
}

abbrev pub decreases-loop-row : goal.decreases-loop-row
decreases-loop-row g l = length (g.R.Operator.to_come l.rows)
