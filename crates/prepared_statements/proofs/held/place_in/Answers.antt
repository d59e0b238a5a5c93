use Rattle.std.proofs.Common.{arith}
use Rattle.prepared_statements.proofs.Places.{none_passed, passes, is_here, none_left}
use Rattle.prepared_statements.proofs.held.place_in.Goals as goal

pub loop-n-init : goal.loop-n-init
loop-n-init c = none_passed c.args.number c.args.statements.now

pub returns-then-held-number-clause-some : goal.returns-then-held-number-clause-some
returns-then-held-number-clause-some c = (
  c.loop-n-test.true,
  (
    c.index-statements-n.result,
    is_here c.args.number c.args.statements.now c.loop-n.n c.index-statements-n.result c.loop-n.invariant c.loop-n-test.true c.index-statements-n.is c.if-held-number.true,
  ),
)

pub loop-n-preserved : goal.loop-n-preserved
loop-n-preserved c =
    passes c.args.number c.args.statements.now c.loop-n.n c.index-statements-n.result c.loop-n.invariant c.loop-n-test.true c.index-statements-n.is c.if-held-number.false

pub returns-clause-none : goal.returns-clause-none
returns-clause-none c = λ is. none_left c.args.number c.args.statements.now c.loop-n.n c.loop-n.invariant (omega (arith, c.loop-n-test.false))
