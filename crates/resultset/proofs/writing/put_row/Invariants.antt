use Rattle.std.proofs.Common.{◌≡◌, ◌+◌, ◌≤◌, ◌++◌, length, take}
use Rattle.resultset.specs.Encoding.{row_payload}
use Rattle.resultset.proofs.writing.put_row.Given as goal

abbrev pub invariant-loop-value : goal.invariant-loop-value
invariant-loop-value l = record {
  whole : l.payload.items ≡ l.fn.payload.items ++ row_payload (take l.value-index l.row);
  capacity : length l.fn.payload.items + l.fn.payload.spare ≤ length l.payload.items + l.payload.spare;
}
