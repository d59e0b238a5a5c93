use Rattle.std.proofs.Common.{length}
use Rattle.resultset.proofs.FramesAgain.{StillSplits}
use Rattle.resultset.proofs.unframing.payloads.Given as goal

abbrev pub invariant-loop-rest : goal.invariant-loop-rest
invariant-loop-rest l = StillSplits l.bytes l.payloads l.rest

abbrev pub decreases-loop-rest : goal.decreases-loop-rest
decreases-loop-rest l = length l.rest
