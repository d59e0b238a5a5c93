use Rattle.mysql_packet.proofs.FrontLemmas.{starts_join, joins_part, joins_last}
use Rattle.mysql_packet.proofs.front.join.Goals as goal

pub loop-init : goal.loop-init
loop-init c = starts_join c.args.come c.args.len c.args.bytes.now _ c.in_ok-payload.ensures.items c.requires

pub loop-preserved : goal.loop-preserved
loop-preserved c = joins_part _ _ _ _ _ _ c.loop.invariant _ _ _ c.loop-test.true c.split_packet.ensures.part c.split_packet.ensures.rest c.in_ok-extend_from_slice.ensures.items

pub returns : goal.returns
returns c = joins_last _ _ _ _ _ _ c.loop.invariant _ _ c.loop-test.false c.split_packet-2.ensures.part c.in_ok-extend_from_slice-2.ensures.items
