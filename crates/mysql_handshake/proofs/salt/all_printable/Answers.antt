use Rattle.std.proofs.Common.{arith}
use Rattle.mysql_handshake.proofs.Printables.{all}
use Rattle.mysql_handshake.proofs.salt.all_printable.Goals as goal

pub returns : goal.returns
returns c =
    let past = c.loop-ordinal-test.false in
    all c.args.bytes.now c.loop-ordinal.all c.loop-ordinal.ordinal c.loop-ordinal.invariant (omega (arith, past, c.loop-ordinal.auto.ordinal-end, c.told-bytes))
