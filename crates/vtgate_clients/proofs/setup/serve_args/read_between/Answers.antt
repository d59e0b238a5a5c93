use Rattle.std.proofs.Common.{arith}
use Rattle.vtgate_clients.proofs.setup.Numbers.{one_number}
use Rattle.vtgate_clients.proofs.setup.serve_args.read_between.Goals as goal

pub returns-then-number-lt1-clause-none : goal.returns-then-number-lt1-clause-none
returns-then-number-lt1-clause-none c = λ n some few writes.
    let same = one_number c.args.text.now c.in_ok-number.number n c.in_ok-number.ensures.below (omega (arith, few, c.ranges.most.fits)) c.in_ok-number.ensures.found writes in
    let low = c.if-number-lt1.true in absurd (omega (arith, same, low, some))

pub returns-then-number-most-clause-none : goal.returns-then-number-most-clause-none
returns-then-number-most-clause-none c = λ n some few writes.
    let same = one_number c.args.text.now c.in_ok-number.number n c.in_ok-number.ensures.below (omega (arith, few, c.ranges.most.fits)) c.in_ok-number.ensures.found writes in
    let high = c.if-number-most.true in absurd (omega (arith, same, high, few))
