use Rattle.std.proofs.Common.{◌≡◌, ◌++◌, length}
use Rattle.prepared_statements.specs.Texts.{filled}
use Rattle.prepared_statements.proofs.filling.filled.Given as goal

abbrev pub invariant-loop-piece : goal.invariant-loop-piece
invariant-loop-piece l = l.out.items ++ filled l.left l.rest ≡ filled l.fn.pieces l.fn.values

abbrev pub decreases-loop-piece : goal.decreases-loop-piece
decreases-loop-piece l = length l.left
