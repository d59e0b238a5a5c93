use Rattle.std.proofs.Common.{refl, ◌∙◌}
use Rattle.session.proofs.turns.Conversation.finish.Goals as goal

pub loop-init : goal.loop-init
loop-init g c = record { handshake = refl; pass_then = refl; device_then = refl; session = refl }

pub loop-preserved : goal.loop-preserved
loop-preserved g c =
    let now = c.turn.ensures.same in
    let then = c.loop.invariant in record {
      handshake = now.handshake ∙ then.handshake;
      pass_then = now.pass_then ∙ then.pass_then;
      device_then = now.device_then ∙ then.device_then;
      session = now.session ∙ then.session;
    }
