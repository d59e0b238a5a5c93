use Rattle.std.proofs.Common.{length}
use Rattle.prepared_statements.specs.inner.Cutting.{literal_of}
use Rattle.prepared_statements.proofs.Tryings.{TriedSoFar}
use Rattle.prepared_statements.proofs.trying.try_holes.Given as goal

abbrev pub invariant-loop-piece : goal.invariant-loop-piece
invariant-loop-piece l = TriedSoFar (literal_of l.fn.tried) l.fn.pieces l.values l.left

abbrev pub decreases-loop-piece : goal.decreases-loop-piece
decreases-loop-piece l = length l.left
