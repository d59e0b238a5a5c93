use Rattle.std.proofs.Common.{sym}
use Rattle.session.specs.conversation.GivesText as x
use Rattle.session.proofs.conversation.local_answers.used.Goals as goal

pub returns-in-Some : goal.returns-in-Some
returns-in-Some c = λ handshake. rw c.done.ensures (x.used (sym c.in-Some.ensures))

pub returns-in-None : goal.returns-in-None
returns-in-None c = λ handshake. rw c.refused.ensures (x.not_used (sym c.in-None.ensures))
