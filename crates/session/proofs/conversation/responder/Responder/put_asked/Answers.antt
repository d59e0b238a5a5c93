use Rattle.session.proofs.conversation.responder.Responder.put_asked.Goals as goal

pub returns-clause-answers : goal.returns-clause-answers
returns-clause-answers g c =
    let bytes = rw (c.set_end_of-end.ensures, c.status_of-status.ensures) at c.put_outcome-rows.ensures.bytes in
    (c.asked-answered.result.0, c.asked-answered.ensures.gives, bytes)
