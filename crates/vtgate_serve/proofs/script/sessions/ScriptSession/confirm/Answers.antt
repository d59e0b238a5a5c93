use denote.Param.Send.{sendable}
use Rattle.shard_run.proofs.Sent.{entry_send}
use Rattle.std.proofs.Common.{sym, subst}
use mathlib.Core.List.{IsPrefix}
use Rattle.vtgate_serve.specs.script.inner.UnderWay.{KeptSession, KnowsOwn}
use Rattle.vtgate_serve.proofs.script.sessions.ScriptSession.confirm.Goals as goal

pub confirm-requires-send-L-Entry : goal.confirm-requires-send-L-Entry
confirm-requires-send-L-Entry g c κs within = search (entry_send, sendable)

pub returns-clause-own : goal.returns-clause-own
returns-clause-own g c =
    subst (KnowsOwn c.args.all.now.seen) c.self.view_is
    (λ n e.
    c.confirm.ensures.own n e (subst (λ (s : KeptSession). IsPrefix s.kept.pass.seen c.args.all.now.seen) (sym c.self.view_is) c.requires.trailing))
