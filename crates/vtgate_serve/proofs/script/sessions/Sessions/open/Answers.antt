use Rattle.std.proofs.Common.{ap}
use denote.Param.Send.{sendable}
use Rattle.journal.specs.Views.{PassView}
use Rattle.shard_run.specs.declared.Entry.{Entry}
use Rattle.shard_run.proofs.Sent.{entry_send}
use Rattle.vtgate_serve.proofs.script.Places.{keeps_opened}
use Rattle.vtgate_serve.proofs.script.sessions.Sessions.open.Goals as goal

pub open-requires-send-L-Entry : goal.open-requires-send-L-Entry
open-requires-send-L-Entry g c κs within = search (entry_send, sendable)

pub invariant_of-self-2 : goal.invariant_of-self-2
invariant_of-self-2 g c =
    keeps_opened g.W.World.opening c.self.inside.all.seen c.open.new.pass.seen c.self.inside.sessions.items c.reserve.new.self.items c.push_reserved.new.self.items _
    c.in_ok-pass.pass c.new.result c.self.inside.opener c.open.new.self c.self.invariant c.in_ok-pass.ensures.new c.new.ensures
    (ap (λ (p : PassView Entry). p.seen) c.open.ensures.parent) c.in_ok-pass.ensures.next.1 c.reserve.ensures.items c.push_reserved.ensures.items
