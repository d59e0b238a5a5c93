use Rattle.std.proofs.Common.{◌+◌, length, take, map}
use Rattle.resultset.specs.Encoding.{definition_payload}
use Rattle.resultset.proofs.Payloads.{HasPut}
use Rattle.resultset.proofs.writing.put_definitions.Given as goal

abbrev pub invariant-loop-column : goal.invariant-loop-column
invariant-loop-column l = HasPut l.fn.out.items l.number (length l.fn.out.items + l.fn.out.spare) (map definition_payload (take l.column-index l.columns)) l.out.items l.out.spare l.next
