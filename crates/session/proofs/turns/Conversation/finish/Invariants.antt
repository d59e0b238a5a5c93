use Rattle.session.specs.Turns.{IsSameConversation}
use Rattle.session.proofs.turns.Conversation.finish.Given as goal

-- it is the conversation that it was
abbrev pub invariant-loop : goal.invariant-loop
invariant-loop g l = IsSameConversation l.initial.self l.self
