use Rattle.std.proofs.Common.{Bool, ap, sym, ◌∙◌}
use Rattle.shard_calls.specs.inner.InTransactions.{stays_open}
use Rattle.route_engine.proofs.Leading as l
use Rattle.route_engine.proofs.engine.Engine.go_on.Goals as goal

pub returns-then-stays_open-clause-ok : goal.returns-then-stays_open-clause-ok
returns-then-stays_open-clause-ok g c =
    l.stays_answered g.W.World.opening g.W.World.limits c.args.pass.now c.step_in-given.new.pass c.args.opened c.step_in-given.new.tx c.args.statement c.step_in-given.result
    (ap (λ (b : Bool). stays_open b c.step_in-given.result) (sym c.closes-closes.ensures) ∙ sym c.stays_open.ensures ∙ c.if-stays_open.true) c.step_in-given.ensures.ok

pub returns-then-stays_open-clause-err : goal.returns-then-stays_open-clause-err
returns-then-stays_open-clause-err g c =
    l.stays_refused g.W.World.opening g.W.World.limits c.args.pass.now c.step_in-given.new.pass c.args.opened c.step_in-given.new.tx c.args.statement c.step_in-given.result
    (ap (λ (b : Bool). stays_open b c.step_in-given.result) (sym c.closes-closes.ensures) ∙ sym c.stays_open.ensures ∙ c.if-stays_open.true) c.step_in-given.ensures.err c.step_in-given.ensures.unchanged

pub returns-else-stays_open-clause-ok : goal.returns-else-stays_open-clause-ok
returns-else-stays_open-clause-ok g c =
    rw c.requires.closed (l.ends_answered g.W.World.opening g.W.World.limits c.args.pass.now c.step_in-given.new.pass c.args.opened c.step_in-given.new.tx c.args.statement c.step_in-given.result
    (ap (λ (b : Bool). stays_open b c.step_in-given.result) (sym c.closes-closes.ensures) ∙ sym c.stays_open.ensures ∙ c.if-stays_open.false) c.step_in-given.ensures.ok)

pub returns-else-stays_open-clause-err : goal.returns-else-stays_open-clause-err
returns-else-stays_open-clause-err g c =
    rw c.requires.closed (l.ends_refused g.W.World.opening g.W.World.limits c.args.pass.now c.step_in-given.new.pass c.args.opened c.step_in-given.new.tx c.args.statement c.step_in-given.result
    (ap (λ (b : Bool). stays_open b c.step_in-given.result) (sym c.closes-closes.ensures) ∙ sym c.stays_open.ensures ∙ c.if-stays_open.false) c.step_in-given.ensures.err)
