use Rattle.std.proofs.Common.{arith}
use Rattle.session.proofs.Pieces.{whole_command}
use Rattle.session.proofs.session_core.whole_command.Goals as goal

pub returns-in-Some-clause-framed : goal.returns-in-Some-clause-framed
returns-in-Some-clause-framed c =
    whole_command c.args.framer.now c.args.piece.now c.in-Some.bytes.now c.in-Some.ensures.between c.in-Some.ensures.packet (omega (arith, c.in-Some.ensures.short))
    (omega (arith, c.in-Some.ensures.short, c.requires))
