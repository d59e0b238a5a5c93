use Rattle.std.proofs.Common.{◌≡◌, ◌≤◌, ◌-◌, length}
use Rattle.resultset.specs.PreparedReplies.{hole_columns}
use Rattle.resultset.proofs.prepared.hole_columns.Given as goal

abbrev pub invariant-loop-columns : goal.invariant-loop-columns
invariant-loop-columns l = (l.columns ≡ hole_columns (length l.columns)) × (length l.columns ≤ l.fn.holes)

abbrev pub decreases-loop-columns : goal.decreases-loop-columns
decreases-loop-columns l = l.fn.holes - length l.columns
