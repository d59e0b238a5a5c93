use Rattle.std.proofs.Common.{Option, sym, subst, ◌∙◌}
use Rattle.std.specs.Prelude.{IfOk, IfErr}
use Rattle.shard_calls.specs.Transactions.{GivesAt, IsRefusedBy}
use Rattle.shard_calls.specs.Pendings.{OpenView, IsOf}
use Rattle.route_engine.specs.inner.Pendings.{Leads}
use Rattle.route_engine.proofs.engine.Engine.step.Goals as goal

pub returns-in-Some-clause-ok : goal.returns-in-Some-clause-ok
returns-in-Some-clause-ok g c =
    subst (λ (y : Option OpenView). IfOk c.go_on.result (λ reply. Leads g.W.World.opening c.args.pass.now y c.go_on.new.pass c.go_on.new.tx
    (λ tr u. GivesAt g.W.World.opening g.W.World.limits c.args.pass.now tr c.args.statement reply (record { pass = c.go_on.new.pass; tx = u }))))
    (sym c.in-Some.is ∙ c.replace.ensures.value ∙ c.tx.view_is) c.go_on.ensures.ok

pub returns-in-Some-clause-err : goal.returns-in-Some-clause-err
returns-in-Some-clause-err g c =
    subst (λ (y : Option OpenView). IfErr c.go_on.result (λ e. Leads g.W.World.opening c.args.pass.now y c.go_on.new.pass c.go_on.new.tx
    (λ tr u. IsRefusedBy g.W.World.opening g.W.World.limits c.args.pass.now tr c.args.statement e (record { pass = c.go_on.new.pass; tx = u }))))
    (sym c.in-Some.is ∙ c.replace.ensures.value ∙ c.tx.view_is) c.go_on.ensures.err

pub returns-in-None-clause-ok : goal.returns-in-None-clause-ok
returns-in-None-clause-ok g c =
    subst (λ (y : Option OpenView). IfOk c.alone.result (λ reply. Leads g.W.World.opening c.args.pass.now y c.alone.new.pass c.alone.new.tx
    (λ tr u. GivesAt g.W.World.opening g.W.World.limits c.args.pass.now tr c.args.statement reply (record { pass = c.alone.new.pass; tx = u }))))
    (sym c.in-None.is ∙ c.replace.ensures.value ∙ c.tx.view_is) c.alone.ensures.ok

pub returns-in-None-clause-err : goal.returns-in-None-clause-err
returns-in-None-clause-err g c =
    subst (λ (y : Option OpenView). IfErr c.alone.result (λ e. Leads g.W.World.opening c.args.pass.now y c.alone.new.pass c.alone.new.tx
    (λ tr u. IsRefusedBy g.W.World.opening g.W.World.limits c.args.pass.now tr c.args.statement e (record { pass = c.alone.new.pass; tx = u }))))
    (sym c.in-None.is ∙ c.replace.ensures.value ∙ c.tx.view_is) c.alone.ensures.err

pub go_on-requires-clause-tx : goal.go_on-requires-clause-tx
go_on-requires-clause-tx g c κs within =
    subst (λ (x : Option OpenView). IsOf g.W.World.opening x c.args.pass.now) (sym c.tx.view_is ∙ sym c.replace.ensures.value ∙ c.in-Some.is) c.requires.tx
