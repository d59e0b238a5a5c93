use Rattle.session.specs.conversation.GivesText as x
use Rattle.session.proofs.conversation.OwnAnswers.{set_to}
use Rattle.session.proofs.conversation.local_answers.set.Goals as goal

pub returns-in-None : goal.returns-in-None
returns-in-None c = λ schema handshake. rw (c.done.ensures, c.in-None.is) x.holds

pub returns-in-Some : goal.returns-in-Some
returns-in-Some c =
    let other = rw c.in-Some.is at c.requires in
    λ schema handshake. rw (c.done-in-Some.ensures, c.with_autocommit.ensures, c.in-Some.is) (set_to schema handshake c.args.settings c.in-Some.on other)
