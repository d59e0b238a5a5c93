use Rattle.session.specs.conversation.GivesText as x
use Rattle.session.proofs.conversation.local_answers.local_answer.Goals as goal

pub returns-in-NotSupported : goal.returns-in-NotSupported
returns-in-NotSupported c = rw (c.refused.ensures, c.in-NotSupported.is) x.not_supported
