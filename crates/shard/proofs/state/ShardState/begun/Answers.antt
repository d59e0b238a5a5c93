use Rattle.std.proofs.Common.{sym, ap, ◌∙◌}
use Rattle.shard_run.specs.Runs.{mode, answers_queries}
use Rattle.shard_contents.specs.Entries.{ShardView}
use Rattle.shard_contents.specs.Shards.{read, not_serving}
use Rattle.shard_contents.proofs.States.{serves_is}
use Rattle.shard.specs.BegunReads.{answered, begun}
use Rattle.shard.proofs.state.ShardState.begun.Goals as goal

pub returns-clause-begun : goal.returns-clause-begun
returns-clause-begun g c =
    let r = c.in_ok-reading.ensures in
    let is = serves_is g.W.World.opening g.W.World.limits c.self.inside.seat.seen c.self.inside.contents c.self.invariant.0.keeps in
    let view = ap (λ (v : ShardView). answers_queries (mode g.W.World.opening v.seen v.shard.slot)) c.self.view_is in
    let serves = sym view ∙ sym is ∙ sym c.serves.ensures ∙ c.if-not-serves.false in
    answered (read (record { serves = serves; few = r.few; allowed = r.rows; count = r.entries ∙ c.requires.entries }))

pub returns-then-scans-clause-begun : goal.returns-then-scans-clause-begun
returns-then-scans-clause-begun g c = begun c.in_ok-snapshot.ensures.snapshot

pub returns-then-not-serves-clause-begun : goal.returns-then-not-serves-clause-begun
returns-then-not-serves-clause-begun g c =
    let is = serves_is g.W.World.opening g.W.World.limits c.self.inside.seat.seen c.self.inside.contents c.self.invariant.0.keeps in
    let view = ap (λ (v : ShardView). answers_queries (mode g.W.World.opening v.seen v.shard.slot)) c.self.view_is in
    answered (not_serving (sym view ∙ sym is ∙ sym c.serves.ensures ∙ c.if-not-serves.true))
