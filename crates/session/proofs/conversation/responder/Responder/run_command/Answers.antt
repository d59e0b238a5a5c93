use Rattle.resultset.specs.declared.Outcome.TheVariants.{Count, Refused}
use Rattle.session.specs.conversation.Means as o
use Rattle.session.specs.conversation.Means.{Means}
use Rattle.session.proofs.conversation.CommandLemmas.{counts_none}
use Rattle.session.proofs.conversation.RepliesLemmas.{gives}
use Rattle.session.proofs.conversation.responder.Responder.run_command.Goals as goal

pub returns-in-Ok-clause-ok : goal.returns-in-Ok-clause-ok
returns-in-Ok-clause-ok g c =
    gives _ _ _ _ _ (λ s now. Means g.W.World.opening g.W.World.limits s c.args.command.now (Count 0) now)
    (λ t stands.
    let said = c.in-Ok.ensures.ok t stands in
    (said.0, counts_none _ _ c.args.command.now c.args.tx.now (record { pass = c.args.pass.now; tx = t }) _ _ c.requires.no_rows stands said.1, said.2))

pub returns-in-Err-clause-err : goal.returns-in-Err-clause-err
returns-in-Err-clause-err g c =
    gives _ _ _ _ _ (λ s now. Means g.W.World.opening g.W.World.limits s c.args.command.now (Refused c.in-Err.why) now)
    (λ t stands. let said = c.in-Err.ensures.err t stands in (said.0, o.refused said.1, said.2))
