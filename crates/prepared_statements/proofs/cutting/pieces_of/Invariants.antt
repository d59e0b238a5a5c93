use Rattle.std.proofs.Common.{◌≡◌, [], length}
use Rattle.prepared_statements.specs.declared.cutting.Place.TheVariants.{Outside}
use Rattle.prepared_statements.specs.inner.Cutting.{cut_onto}
use Rattle.prepared_statements.proofs.cutting.pieces_of.Given as goal

abbrev pub invariant-loop-byte : goal.invariant-loop-byte
invariant-loop-byte l = cut_onto l.cutting.pieces l.cutting.piece l.cutting.place l.rest ≡ cut_onto [] [] Outside l.fn.text

abbrev pub decreases-loop-byte : goal.decreases-loop-byte
decreases-loop-byte l = length l.rest
