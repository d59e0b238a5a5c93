use Rattle.std.proofs.Common.{◌≤◌, length}
use Rattle.resultset.proofs.FramesAgain.{StillReads}
use Rattle.resultset.proofs.unframing.payload_at.Given as goal

abbrev pub invariant-loop-payload : goal.invariant-loop-payload
invariant-loop-payload l = StillReads l.bytes l.payload.items l.rest × (length l.rest ≤ length l.bytes)

abbrev pub decreases-loop-payload : goal.decreases-loop-payload
decreases-loop-payload l = length l.rest
