use Rattle.std.proofs.Common.{◌-◌, ◌∙◌, sym, arith}
use Rattle.sql_eval.proofs.PairValues.{left_at, right_at}
use Rattle.sql_eval.proofs.conditions.pair_at.Goals as goal

pub returns-then-ordinal-width : goal.returns-then-ordinal-width
returns-then-ordinal-width c =
    c.value_at.ensures ∙ sym (left_at c.args.width c.args.first.now c.args.second.now c.args.ordinal c.if-ordinal-width.true)

pub returns-else-ordinal-width : goal.returns-else-ordinal-width
returns-else-ordinal-width c =
    c.value_at-else-ordinal-width.ensures ∙ sym (right_at c.args.width c.args.first.now c.args.second.now (c.args.ordinal - c.args.width) c.args.ordinal (omega (arith, c.if-ordinal-width.false)))
