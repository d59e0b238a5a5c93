use Rattle.std.proofs.Common.{map, take}
use Rattle.reshard_cutover.specs.inner.Steps.{AreFollowed}
use Rattle.reshard_cutover.proofs.steps.is_level.Given as goal

-- level with the sources so far
abbrev pub invariant-loop-source : goal.invariant-loop-source
invariant-loop-source g l =
    AreFollowed g.W.World.opening l.state.seen l.state.shard (map (λ s. (s.member.which, s.stored)) (take l.source-index l.sources))
