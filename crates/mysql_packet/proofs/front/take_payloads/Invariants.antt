use Rattle.std.proofs.Common.{length}
use Rattle.mysql_packet.proofs.StreamLemmas.{StillTakes}
use Rattle.mysql_packet.proofs.front.take_payloads.Given as goal

abbrev pub invariant-taking : goal.invariant-taking
invariant-taking l = StillTakes l.limit l.bytes l.payloads l.rest

abbrev pub decreases-taking : goal.decreases-taking
decreases-taking l = length l.rest
