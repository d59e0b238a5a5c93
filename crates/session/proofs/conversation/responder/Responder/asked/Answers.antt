use Rattle.session.specs.conversation.inner.Means as y
use Rattle.session.proofs.conversation.responder.Responder.asked.Goals as goal

pub returns-in-Ok-clause-gives : goal.returns-in-Ok-clause-gives
returns-in-Ok-clause-gives g c = c.answer_read-answered.ensures.gives

pub returns-in-Err-clause-gives : goal.returns-in-Err-clause-gives
returns-in-Err-clause-gives g c = λ s held. (s, held, rw c.refused.ensures y.unread)
