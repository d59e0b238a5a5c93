use Rattle.std.proofs.Common.{arith, refl, ap, length, ◌≤◌}
use Rattle.mysql_packet.specs.Frames.{full}
use Rattle.mysql_packet.proofs.FrameLemmas.{length-frame, part_fits, puts_part}
use Rattle.mysql_packet.proofs.payload.put_payload.Goals as goal

pub returns-in_err-reserve-clause-room : goal.returns-in_err-reserve-clause-room
returns-in_err-reserve-clause-room c = λ room. absurd (omega (arith, room, length-frame c.args.number c.args.payload.now, c.in_err-reserve.ensures.spare))

pub loop-rest-init : goal.loop-rest-init
loop-rest-init c = record {
  whole = rw c.in_ok-reserve.ensures.items refl;
  next = refl;
  room = omega (arith, length-frame c.args.number c.args.payload.now, c.in_ok-reserve.ensures.spare);
  capacity = omega (arith, ap length c.in_ok-reserve.ensures.items, c.in_ok-reserve.ensures.spare);
}

pub put_packet-requires : goal.put_packet-requires
put_packet-requires c =
    let long : full ≤ length c.loop-rest.rest.now = omega arith in
    part_fits c.loop-rest.next c.loop-rest.out.spare c.loop-rest.rest.now _ long c.split_at.ensures.front c.loop-rest.invariant.room

pub loop-rest-preserved : goal.loop-rest-preserved
loop-rest-preserved c =
    let long : full ≤ length c.loop-rest.rest.now = omega arith in
    puts_part c.loop-rest.out.items c.loop-rest.out.spare c.loop-rest.next c.loop-rest.rest.now _ _ _ _ long c.split_at.ensures.front c.split_at.ensures.back c.put_packet.ensures.items c.put_packet.ensures.spare
    c.loop-rest.invariant
