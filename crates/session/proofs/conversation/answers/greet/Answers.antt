use Rattle.std.proofs.Common.{[], ◌∙◌}
use Rattle.std.proofs.KnownBytes.{Appends-nil}
use Rattle.session.specs.conversation.Talk as t
use Rattle.session.proofs.conversation.Conversations.{greeted, greeted_front}
use Rattle.session.proofs.conversation.answers.greet.Goals as goal

pub returns-in-At-clause-greets : goal.returns-in-At-clause-greets
returns-in-At-clause-greets g c = ([], Appends-nil (g.S.Sink.taken c.args.sink.now), rw c.in-At.is t.goes_on)

pub returns-in-Ok-clause-greets : goal.returns-in-Ok-clause-greets
returns-in-Ok-clause-greets g c =
    greeted c.args.handshake.now _ _ _ _ c.in-New.is (c.as_slice.ensures ∙ c.put_handshake.ensures.bytes) c.in-Ok.ensures.bytes

pub returns-in-Err-clause-cut : goal.returns-in-Err-clause-cut
returns-in-Err-clause-cut g c =
    greeted_front c.args.handshake.now _ _ _ _ c.in-New.is (c.as_slice.ensures ∙ c.put_handshake.ensures.bytes) c.in-Err.ensures.front
