use Rattle.session.proofs.conversation.Written.{more_taken}
use Rattle.session.proofs.conversation.devices.write_all.Goals as goal

pub loop-preserved : goal.loop-preserved
loop-preserved g c = rw c.bytes_after-rest.ensures (more_taken _ _ _ _ _ c.in_ok-n.n c.loop.invariant c.in_ok-n.ensures.bytes)
