use Rattle.session.proofs.conversation.held_texts.said_statement.Goals as goal

pub returns-in-Err-clause-only : goal.returns-in-Err-clause-only
returns-in-Err-clause-only c = λ statement reads. c.in-Err.ensures.only statement (rw c.as_slice.ensures reads)
