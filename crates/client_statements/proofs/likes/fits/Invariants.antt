use Rattle.std.proofs.Common.{◌≡◌, ◌≤◌, length, drop}
use Rattle.client_statements.specs.inner.Rows.{row_of}
use Rattle.client_statements.proofs.likes.fits.Given as goal

abbrev pub invariant-loop-left : goal.invariant-loop-left
invariant-loop-left l = record { within : l.left ≤ length l.pieces; row : l.row.items ≡ row_of (drop l.left l.pieces) l.name }

abbrev pub decreases-loop-left : goal.decreases-loop-left
decreases-loop-left l = l.left
