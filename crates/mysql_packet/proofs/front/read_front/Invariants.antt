use Rattle.std.proofs.Common.{length}
use Rattle.mysql_packet.proofs.FrontLemmas.{StillReads}
use Rattle.mysql_packet.proofs.front.read_front.Given as goal

abbrev pub invariant-loop-rest : goal.invariant-loop-rest
invariant-loop-rest l = StillReads l.limit l.bytes l.first l.come l.rest

abbrev pub decreases-loop-rest : goal.decreases-loop-rest
decreases-loop-rest l = length l.rest
