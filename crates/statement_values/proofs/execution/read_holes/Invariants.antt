use Rattle.std.proofs.Common.{length}
use Rattle.statement_values.proofs.Bindings.{BoundSoFar}
use Rattle.statement_values.proofs.execution.read_holes.Given as goal

abbrev pub invariant-loop-hole : goal.invariant-loop-hole
invariant-loop-hole l = BoundSoFar l.fn.bitmap l.fn.long l.fn.types l.fn.bytes l.values l.left l.kinds l.rest

abbrev pub decreases-loop-hole : goal.decreases-loop-hole
decreases-loop-hole l = length l.left
