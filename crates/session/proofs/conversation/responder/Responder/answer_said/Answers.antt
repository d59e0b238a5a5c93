use Rattle.session.specs.conversation.inner.Means as y
use Rattle.session.proofs.conversation.responder.Responder.answer_said.Goals as goal

pub returns-in-Ok-Some-clause-gives : goal.returns-in-Ok-Some-clause-gives
returns-in-Ok-Some-clause-gives g c = λ none s held.
    let runs = c.run_said-outcome.ensures.runs c.args.self.now.handshake.now in
    let next = runs.2 s held in
    let is_said = rw (c.in-Ok-Some.field-0-is, c.schema.ensures.schema, c.schema.ensures.opening) at c.in-Ok-Some.ensures.found in
    (next.0, next.1, rw runs.1 (y.said _ _ none is_said next.2))

pub returns-in-Ok-None-clause-gives : goal.returns-in-Ok-None-clause-gives
returns-in-Ok-None-clause-gives g c = λ none s held. (
  s,
  held,
  rw c.refused.ensures
      (y.nothing none (λ whole names is_said.
      let some = rw c.in-Ok-None.field-0-is at (c.in-Ok-None.ensures.only whole names (rw (c.schema.ensures.schema, c.schema.ensures.opening) is_said)) in cc)),
)

pub returns-in-Err-clause-gives : goal.returns-in-Err-clause-gives
returns-in-Err-clause-gives g c = λ none s held. (s, held, rw c.refused-in-Err.ensures y.unread)
