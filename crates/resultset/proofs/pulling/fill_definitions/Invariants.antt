use Rattle.std.proofs.Common.{take, map}
use Rattle.resultset.specs.Encoding.{definition_payload}
use Rattle.resultset.proofs.Pulls.{Written}
use Rattle.resultset.proofs.pulling.fill_definitions.Given as goal

abbrev pub invariant-loop-column : goal.invariant-loop-column
invariant-loop-column l = Written l.fn.filling l.number (map definition_payload (take l.column-index l.columns)) l.filling l.next
