use Rattle.session.specs.conversation.GivesText as x
use Rattle.session.proofs.conversation.local_answers.rows_answer.Goals as goal

pub returns-in-Ok-Some : goal.returns-in-Ok-Some
returns-in-Ok-Some c =
    let answered = rw c.in-Ok-Some.field-0-is at c.in-Ok-Some.ensures.answered in
    x.told answered c.reply_of_answer.ensures

pub returns-in-Err : goal.returns-in-Err
returns-in-Err c = rw c.refused.ensures (x.no_memory c.requires.rows)
