use Rattle.vtgate_clients.proofs.setup.Fits.{fits}
use Rattle.vtgate_serve.specs.script.Wrong as w
use Rattle.vtgate_serve.proofs.script.script.begin.Goals as goal

pub returns-in-Ok-clause-fit : goal.returns-in-Ok-clause-fit
returns-in-Ok-clause-fit c =
    fits c.in-Ok.schema c.requires.0 c.args.ranges.now c.requires.1 (c.has_too_many.ensures.few c.if-has_too_many.false c.requires.1.few)

pub returns-then-has_too_many-clause-fault : goal.returns-then-has_too_many-clause-fault
returns-then-has_too_many-clause-fault c = λ two.
    w.many c.in-Some.first.now c.in-Some.lines.now c.in-Ok.schema c.in-Some.ensures.found c.in-Ok.ensures.declared
    (c.has_too_many.ensures.many c.if-has_too_many.true)

pub returns-clause-fault : goal.returns-clause-fault
returns-clause-fault c = λ two.
    w.other c.in-Some.first.now c.in-Some.lines.now c.in-Some.ensures.found (c.in-Err.ensures.fault two)
