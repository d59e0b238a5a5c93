use Rattle.session.specs.conversation.GivesText as x
use Rattle.session.proofs.conversation.local_answers.reply_of_answer.Goals as goal

pub returns-in-Refused : goal.returns-in-Refused
returns-in-Refused c = rw (c.refused.ensures, c.in-Refused.is) x.refused
