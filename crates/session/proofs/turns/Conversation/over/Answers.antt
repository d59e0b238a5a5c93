use Rattle.std.proofs.Common.{ap, ◌∙◌}
use Rattle.std.specs.Prelude.{IfOk}
use Rattle.std.specs.Io.KnownBytes.{IsAtEnd, prepend_known}
use Rattle.session.specs.conversation.Talk.{IsByInput}
use Rattle.session.specs.Served.{HasTalkedWhole, HasTalkedAlone, HasStoppedReading, HasStoppedForMemory, HasStoppedWriting}
use Rattle.session.proofs.TurnLemmas.{some_over, over_talk, over_alone, over_left, over_read, over_memory, over_write}
use Rattle.session.proofs.turns.Conversation.over.Goals as goal

pub returns-clause-talk : goal.returns-clause-talk
returns-clause-talk g c =
    let s = c.self.inside in
    rw (← c.self.view_is)
    (some_over g.W.World.opening g.W.World.limits s.core.handshake s.pass_then.value s.pass (g.D.Device.unread s.device_then.value) (prepend_known s.unfed.items (g.D.Device.unread s.device))
    (g.D.Device.taken s.device_then.value) (g.D.Device.taken s.device)
    (HasTalkedWhole g.W.World.opening g.W.World.limits s.core.handshake s.pass_then.value s.pass (g.D.Device.unread s.device_then.value) (prepend_known s.unfed.items (g.D.Device.unread s.device))
    (g.D.Device.taken s.device_then.value) (g.D.Device.taken s.device))
    s.core s.ended s.unsent.bytes.items (ap (λ v. v.unsent) c.self.view_is ∙ c.has_unsent.ensures.0 c.if-has_unsent.false) c.self.invariant.talked
    (over_talk g.W.World.opening g.W.World.limits s.core.handshake s.pass_then.value s.pass (g.D.Device.unread s.device_then.value) (prepend_known s.unfed.items (g.D.Device.unread s.device))
    (g.D.Device.taken s.device_then.value) (g.D.Device.taken s.device)))

pub returns-clause-alone : goal.returns-clause-alone
returns-clause-alone g c =
    let s = c.self.inside in
    rw (← c.self.view_is)
    (some_over g.W.World.opening g.W.World.limits s.core.handshake s.pass_then.value s.pass (g.D.Device.unread s.device_then.value) (prepend_known s.unfed.items (g.D.Device.unread s.device))
    (g.D.Device.taken s.device_then.value) (g.D.Device.taken s.device)
    (HasTalkedAlone g.W.World.opening g.W.World.limits s.core.handshake s.pass_then.value s.pass (g.D.Device.unread s.device_then.value) (prepend_known s.unfed.items (g.D.Device.unread s.device))
    (g.D.Device.taken s.device_then.value) (g.D.Device.taken s.device))
    s.core s.ended s.unsent.bytes.items (ap (λ v. v.unsent) c.self.view_is ∙ c.has_unsent.ensures.0 c.if-has_unsent.false) c.self.invariant.talked
    (over_alone g.W.World.opening g.W.World.limits s.core.handshake s.pass_then.value s.pass (g.D.Device.unread s.device_then.value) (prepend_known s.unfed.items (g.D.Device.unread s.device))
    (g.D.Device.taken s.device_then.value) (g.D.Device.taken s.device) c.begins_with.ensures.opens c.begins_with.ensures.formed c.self.invariant.legal))

pub returns-clause-read : goal.returns-clause-read
returns-clause-read g c =
    let s = c.self.inside in
    rw (← c.self.view_is)
    (some_over g.W.World.opening g.W.World.limits s.core.handshake s.pass_then.value s.pass (g.D.Device.unread s.device_then.value) (prepend_known s.unfed.items (g.D.Device.unread s.device))
    (g.D.Device.taken s.device_then.value) (g.D.Device.taken s.device)
    (HasStoppedReading g.W.World.opening g.W.World.limits s.core.handshake s.pass_then.value s.pass (g.D.Device.unread s.device_then.value) (prepend_known s.unfed.items (g.D.Device.unread s.device))
    (g.D.Device.taken s.device_then.value) (g.D.Device.taken s.device))
    s.core s.ended s.unsent.bytes.items (ap (λ v. v.unsent) c.self.view_is ∙ c.has_unsent.ensures.0 c.if-has_unsent.false) c.self.invariant.talked
    (over_read g.W.World.opening g.W.World.limits s.core.handshake s.pass_then.value s.pass (g.D.Device.unread s.device_then.value) (prepend_known s.unfed.items (g.D.Device.unread s.device))
    (g.D.Device.taken s.device_then.value) (g.D.Device.taken s.device)))

pub returns-clause-memory : goal.returns-clause-memory
returns-clause-memory g c =
    let s = c.self.inside in
    rw (← c.self.view_is)
    (some_over g.W.World.opening g.W.World.limits s.core.handshake s.pass_then.value s.pass (g.D.Device.unread s.device_then.value) (prepend_known s.unfed.items (g.D.Device.unread s.device))
    (g.D.Device.taken s.device_then.value) (g.D.Device.taken s.device)
    (HasStoppedForMemory g.W.World.opening g.W.World.limits s.core.handshake s.pass_then.value s.pass (g.D.Device.unread s.device_then.value) (prepend_known s.unfed.items (g.D.Device.unread s.device))
    (g.D.Device.taken s.device_then.value) (g.D.Device.taken s.device))
    s.core s.ended s.unsent.bytes.items (ap (λ v. v.unsent) c.self.view_is ∙ c.has_unsent.ensures.0 c.if-has_unsent.false) c.self.invariant.talked
    (over_memory g.W.World.opening g.W.World.limits s.core.handshake s.pass_then.value s.pass (g.D.Device.unread s.device_then.value) (prepend_known s.unfed.items (g.D.Device.unread s.device))
    (g.D.Device.taken s.device_then.value) (g.D.Device.taken s.device)))

pub returns-clause-write : goal.returns-clause-write
returns-clause-write g c =
    let s = c.self.inside in
    rw (← c.self.view_is)
    (some_over g.W.World.opening g.W.World.limits s.core.handshake s.pass_then.value s.pass (g.D.Device.unread s.device_then.value) (prepend_known s.unfed.items (g.D.Device.unread s.device))
    (g.D.Device.taken s.device_then.value) (g.D.Device.taken s.device)
    (HasStoppedWriting g.W.World.opening g.W.World.limits s.core.handshake s.pass_then.value s.pass (g.D.Device.unread s.device_then.value) (prepend_known s.unfed.items (g.D.Device.unread s.device))
    (g.D.Device.taken s.device_then.value) (g.D.Device.taken s.device))
    s.core s.ended s.unsent.bytes.items (ap (λ v. v.unsent) c.self.view_is ∙ c.has_unsent.ensures.0 c.if-has_unsent.false) c.self.invariant.talked
    (over_write g.W.World.opening g.W.World.limits s.core.handshake s.pass_then.value s.pass (g.D.Device.unread s.device_then.value) (prepend_known s.unfed.items (g.D.Device.unread s.device))
    (g.D.Device.taken s.device_then.value) (g.D.Device.taken s.device)))

pub returns-clause-at_end : goal.returns-clause-at_end
returns-clause-at_end g c =
    let s = c.self.inside in
    rw (← c.self.view_is)
    (some_over g.W.World.opening g.W.World.limits s.core.handshake s.pass_then.value s.pass (g.D.Device.unread s.device_then.value) (prepend_known s.unfed.items (g.D.Device.unread s.device))
    (g.D.Device.taken s.device_then.value) (g.D.Device.taken s.device)
    (λ r. IfOk r (λ end. IsByInput end → IsAtEnd (g.D.Device.unread s.device)))
    s.core s.ended s.unsent.bytes.items (ap (λ v. v.unsent) c.self.view_is ∙ c.has_unsent.ensures.0 c.if-has_unsent.false) c.self.invariant.talked
    (over_left g.W.World.opening g.W.World.limits s.core.handshake s.pass_then.value s.pass (g.D.Device.unread s.device_then.value) (g.D.Device.taken s.device_then.value) (g.D.Device.taken s.device)
    s.unfed.items (g.D.Device.unread s.device)))
