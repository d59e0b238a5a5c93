use Rattle.session.proofs.conversation.responder.Responder.answer.Goals as goal

pub returns-in-Err-clause-cut : goal.returns-in-Err-clause-cut
returns-in-Err-clause-cut g c = (_, c.put_reply-connection_state.result.0, rw c.as_slice.ensures at c.in-Err.ensures.front, c.put_reply-connection_state.ensures.answers)

pub returns-in-Ok-clause-answers : goal.returns-in-Ok-clause-answers
returns-in-Ok-clause-answers g c = (_, rw c.as_slice.ensures at c.in-Ok.ensures.bytes, c.put_reply-connection_state.ensures.answers)
