use Rattle.std.proofs.Common.{◌≤◌, length, arith}
use Rattle.operators.proofs.Turns.{shown_first}
use Rattle.operators.proofs.columns.shows_first.Goals as goal

pub returns-then-ordinals-len : goal.returns-then-ordinals-len
returns-then-ordinals-len c is =
    let less : length c.args.ordinals.now ≤ length c.args.row.now = omega (arith, c.if-ordinals-len.true, c.len.ensures) in
    shown_first c.args.ordinals.now c.args.row.now less (c.are_in_turn.ensures is)
