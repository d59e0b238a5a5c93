use Rattle.std.proofs.Common.{◌∙◌}
use Rattle.session.specs.conversation.Means as o
use Rattle.session.specs.conversation.Means.{Means}
use Rattle.session.proofs.conversation.RepliesLemmas.{gives, replied}
use Rattle.session.proofs.conversation.responder.Responder.outcome_of.Goals as goal

pub returns-in-Ok-clause-means : goal.returns-in-Ok-clause-means
returns-in-Ok-clause-means g c =
    gives _ _ _ _ _ (λ s now. Means g.W.World.opening g.W.World.limits s c.args.text.now c.shown.result now)
    (λ t stands.
    let said = c.in-Ok.ensures.ok t stands in
    (said.0, replied _ _ _ _ _ c.in-Ok.reply _ _ (c.schema.ensures.schema ∙ c.schema.ensures.opening) c.shown.ensures said.1, said.2))

pub returns-in-Err-clause-means : goal.returns-in-Err-clause-means
returns-in-Err-clause-means g c =
    gives _ _ _ _ _ (λ s now. Means g.W.World.opening g.W.World.limits s c.args.text.now (Rattle.resultset.specs.declared.Outcome.TheVariants.Refused c.in-Err.refusal) now)
    (λ t stands. let said = c.in-Err.ensures.err t stands in (said.0, o.refused said.1, said.2))
