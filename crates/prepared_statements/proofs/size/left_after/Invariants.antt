use Rattle.std.proofs.Common.{◌≡◌, ◌-◌, drop}
use Rattle.prepared_statements.specs.Held.{size_of}
use Rattle.prepared_statements.proofs.size.left_after.Given as goal

abbrev pub invariant-loop-piece : goal.invariant-loop-piece
invariant-loop-piece l = l.left - size_of (drop l.piece-index l.pieces) ≡ l.fn.left - size_of l.pieces
