use Rattle.session.specs.conversation.inner.Means as y
use Rattle.session.proofs.conversation.responder.Responder.answer_read.Goals as goal

pub returns-in-Some-clause-gives : goal.returns-in-Some-clause-gives
returns-in-Some-clause-gives g c = λ s held.
    let is_asked = rw c.in-Some.is at c.requires.reading.asked in
    let next = c.statement_outcome.ensures.gives s held in
    (next.0, next.1, y.asked _ is_asked next.2)

pub returns-in-None-clause-gives : goal.returns-in-None-clause-gives
returns-in-None-clause-gives g c =
    c.answer_said.ensures.gives (λ statement is_asked. let none = rw c.in-None.is at (c.requires.reading.only statement is_asked) in cc)
