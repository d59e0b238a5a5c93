use Rattle.session.specs.conversation.Prepared as a
use Rattle.session.proofs.conversation.prepared.put_statement_reset.Goals as goal

pub returns-then-reset-clause-answers : goal.returns-then-reset-clause-answers
returns-then-reset-clause-answers c = λ schema end. rw c.put_pong.ensures.bytes (a.reset (c.reset.ensures.reset c.if-reset.true))

pub returns-else-reset-clause-answers : goal.returns-else-reset-clause-answers
returns-else-reset-clause-answers c = λ schema end.
    rw (c.put_one_fault.ensures.bytes, c.reset.ensures.unchanged c.if-reset.false) (a.not_reset (c.reset.ensures.unknown c.if-reset.false))
