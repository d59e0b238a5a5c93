use Rattle.mysql_packet.specs.inner.Reading.{payload_at}
use Rattle.mysql_packet.proofs.FrontLemmas.{StillJoins}
use Rattle.mysql_packet.proofs.front.join.Given as goal

abbrev pub invariant-loop : goal.invariant-loop
invariant-loop l = StillJoins (payload_at l.come l.len l.bytes) l.come l.len l.counter l.payload.items l.rest
