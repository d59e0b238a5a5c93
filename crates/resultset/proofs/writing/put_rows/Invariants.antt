use Rattle.std.proofs.Common.{◌+◌, length, take, map}
use Rattle.resultset.specs.Encoding.{row_payload}
use Rattle.resultset.proofs.Payloads.{HasPut}
use Rattle.resultset.proofs.writing.put_rows.Given as goal

abbrev pub invariant-loop-row : goal.invariant-loop-row
invariant-loop-row l = HasPut l.fn.out.items l.number (length l.fn.out.items + l.fn.out.spare) (map row_payload (take l.row-index l.rows)) l.out.items l.out.spare l.next
