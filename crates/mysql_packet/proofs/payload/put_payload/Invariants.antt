use Rattle.std.proofs.Common.{◌+◌, ◌++◌, length}
use Rattle.mysql_packet.specs.Frames.{frame, number_after}
use Rattle.mysql_packet.proofs.FrameLemmas.{StillPuts}
use Rattle.mysql_packet.proofs.payload.put_payload.Given as goal

abbrev pub invariant-loop-rest : goal.invariant-loop-rest
invariant-loop-rest l =
    StillPuts (l.fn.out.items ++ frame l.number l.payload) (number_after l.number l.payload) (length l.fn.out.items + l.fn.out.spare) l.out.items l.out.spare l.next l.rest

abbrev pub decreases-loop-rest : goal.decreases-loop-rest
decreases-loop-rest l = length l.rest
