use Rattle.std.proofs.Common.{◌≡◌, ◌++◌, ◌≤◌, ◌+◌, length}
use Rattle.resultset.specs.BinaryRows.{binary_values}
use Rattle.resultset.proofs.binary_rows.put_values.Given as goal

abbrev pub invariant-loop-left : goal.invariant-loop-left
invariant-loop-left l =
    (l.out.items ++ binary_values l.left l.rest ≡ l.fn.out.items ++ binary_values l.fn.kinds l.fn.row)
    × (length l.fn.out.items + l.fn.out.spare ≤ length l.out.items + l.out.spare)

abbrev pub decreases-loop-left : goal.decreases-loop-left
decreases-loop-left l = length l.left
