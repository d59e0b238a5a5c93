use Rattle.operators.proofs.Turns.{next_in_turn}
use Rattle.operators.proofs.columns.are_in_turn.Goals as goal

pub loop-n-preserved : goal.loop-n-preserved
loop-n-preserved c = next_in_turn c.args.ordinals.now c.loop-n.n c.loop-n-test.true c.if-ordinals-n.false c.loop-n.invariant
