use Rattle.std.specs.List.{AllByRecursion}
use Rattle.resultset.specs.Encoding.{RowFits, row_payload}
use Rattle.resultset.proofs.Lists.{ReadSoFar}
use Rattle.resultset.proofs.reading.rows.Given as goal

abbrev pub invariant-loop-payload : goal.invariant-loop-payload
invariant-loop-payload l = ReadSoFar (RowFits l.columns) row_payload l.payloads l.payload-index l.rows × AllByRecursion (RowFits l.columns) l.rows
