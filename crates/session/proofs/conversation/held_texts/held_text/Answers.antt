use Rattle.session.proofs.conversation.held_texts.held_text.Goals as goal

pub returns-in-Err-clause-err : goal.returns-in-Err-clause-err
returns-in-Err-clause-err c = rw c.as_slice.ensures at c.in-Err.ensures.err
