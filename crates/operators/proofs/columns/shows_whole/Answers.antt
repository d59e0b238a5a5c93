use Rattle.operators.proofs.Turns.{shown_whole}
use Rattle.operators.proofs.columns.shows_whole.Goals as goal

pub returns-then-ordinals-len : goal.returns-then-ordinals-len
returns-then-ordinals-len c is = shown_whole c.args.ordinals.now c.args.row.now c.len.result c.len.ensures c.if-ordinals-len.true (c.are_in_turn.ensures is)
