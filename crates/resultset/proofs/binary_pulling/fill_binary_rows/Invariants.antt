use Rattle.std.proofs.Common.{◌≡◌, length}
use Rattle.resultset.proofs.BinaryPulls.{binary_bytes, binary_past}
use Rattle.resultset.proofs.binary_pulling.fill_binary_rows.Given as goal

abbrev pub invariant-loop-row : goal.invariant-loop-row
invariant-loop-row g l = record {
  bytes : binary_bytes l.kinds l.filling l.next (g.R.Operator.to_come l.rows) ≡ binary_bytes l.kinds l.fn.filling l.number (g.R.Operator.to_come l.fn.rows);
  number : binary_past l.kinds l.next (g.R.Operator.to_come l.rows) ≡ binary_past l.kinds l.number (g.R.Operator.to_come l.fn.rows);
}

abbrev pub decreases-loop-row : goal.decreases-loop-row
decreases-loop-row g l = length (g.R.Operator.to_come l.rows)
