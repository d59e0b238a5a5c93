use Rattle.std.proofs.Common.{rules, ap}
use Rattle.session.proofs.TurnLemmas.{turn_begins}
use Rattle.session.proofs.turns.Conversation.of.Goals as goal

pub invariant_of-result : goal.invariant_of-result
invariant_of-result g c =
    turn_begins g.W.World.opening g.W.World.limits c.args.pass c.of-pass_then.result.value _ _ _ _ _ _ c.args.core c.of-pass_then.ensures (ap g.D.Device.unread c.of-device_then.ensures)
    (ap g.D.Device.taken c.of-device_then.ensures) (search rules) (search rules) c.requires.limit c.requires.none_open c.requires.session c.meet.ensures c.requires.begins
