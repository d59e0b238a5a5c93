use Rattle.std.proofs.Common.{◌-◌, arith}
use Rattle.statement_values.proofs.Powers.{down_only}
use Rattle.statement_values.proofs.whole.scaled.Goals as goal

pub returns-else-exponent-bias-clause-none : goal.returns-else-exponent-bias-clause-none
returns-else-exponent-bias-clause-none c = λ is r lt same.
    c.over_power.ensures.none is r
    (down_only c.args.n c.args.exponent c.args.bias (c.args.bias - c.args.exponent) r (omega (arith, c.if-exponent-bias.false)) same)
