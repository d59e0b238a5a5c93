use Rattle.std.proofs.Common.{rules}
use Rattle.session.proofs.TurnLemmas.{turn_sent, turn_cut}
use Rattle.session.proofs.turns.Conversation.send.Goals as goal

pub invariant_of-self : goal.invariant_of-self
invariant_of-self g c = turn_sent _ _ _ _ _ _ _ _ _ _ _ _ _ _ c.send.ensures.unread _ _ c.self.invariant c.in-Ok.ensures.sent

pub invariant_of-self-in-Err : goal.invariant_of-self-in-Err
invariant_of-self-in-Err g c =
    turn_cut _ _ _ _ _ _ _ _ _ _ _ _ _ _ c.send.ensures.unread _ _ c.self.invariant (search rules) c.in-Err.ensures.cut.0 c.in-Err.ensures.cut.1
