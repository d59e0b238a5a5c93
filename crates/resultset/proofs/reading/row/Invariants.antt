use Rattle.resultset.proofs.RowsAgain.{RowSoFar}
use Rattle.resultset.proofs.reading.row.Given as goal

abbrev pub invariant-loop-column : goal.invariant-loop-column
invariant-loop-column l = RowSoFar l.columns l.payload l.column-index l.rest l.row
