use Rattle.std.specs.Prelude.{IsTrue}
use Rattle.reshard_cutover.specs.Steps.{Looked, has_source}
use Rattle.reshard_cutover.specs.inner.Steps.{IsUpTo}
use Rattle.reshard_cutover.proofs.Retiring.{all_map_next}
use Rattle.reshard_cutover.proofs.steps.is_level.Goals as goal

pub loop-source-preserved : goal.loop-source-preserved
loop-source-preserved g c =
    all_map_next
    (λ (s : Looked). IsTrue (has_source s.0.slot c.args.state.now.shard) → IsUpTo g.W.World.opening c.args.state.now.seen c.args.state.now.shard s)
    (λ s. (s.member.which, s.stored)) c.args.sources.now c.loop-source.source-index c.source-item.result c.loop-source-test.true c.source-item.is
    c.loop-source.invariant (c.is_done_with.ensures c.if-not-is_done_with.false)
