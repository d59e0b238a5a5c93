use Rattle.session.specs.conversation.GivesText as x
use Rattle.session.proofs.conversation.local_answers.rows_reply.Goals as goal

pub returns-in-Ok : goal.returns-in-Ok
returns-in-Ok c = rw c.new.ensures (x.rows c.in-Ok.ensures)

pub returns-in-Err : goal.returns-in-Err
returns-in-Err c = rw c.refused.ensures x.untold
