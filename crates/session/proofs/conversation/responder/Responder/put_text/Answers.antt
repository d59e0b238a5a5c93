use Rattle.resultset.specs.declared.Outcome.TheVariants.{Refused}
use Rattle.session.proofs.conversation.TextLemmas.{gives_refusal}
use Rattle.session.proofs.conversation.responder.Responder.put_text.Goals as goal

pub returns-in-Some-clause-gives : goal.returns-in-Some-clause-gives
returns-in-Some-clause-gives g c =
    let bytes = rw (c.set_end_of-end.ensures, c.status_of-status.ensures, c.refused-outcome.ensures) at c.put_outcome-rows.ensures.bytes in
    (Refused c.in-Some.why, (λ s held. (s, held, gives_refusal _ _ _ s _ _ c.in-Some.ensures.some)), bytes)
