use Rattle.session.proofs.conversation.Conversations.{one_answered, one_cut}
use Rattle.session.proofs.conversation.responder.Responder.answer_command.Goals as goal

pub returns-in-Ok-clause-answers : goal.returns-in-Ok-clause-answers
returns-in-Ok-clause-answers g c =
    (_, rw c.as_slice.ensures at c.in-Ok.ensures.bytes, one_answered _ _ _ _ _ _ _ _ c.put_command-then.ensures.answers)

pub returns-in-Err-clause-cut : goal.returns-in-Err-clause-cut
returns-in-Err-clause-cut g c =
    one_cut _ _ _ _ _ _ _ c.put_command-then.result.0 c.put_command-then.ensures.answers _ _ (rw c.as_slice.ensures at c.in-Err.ensures.front)
