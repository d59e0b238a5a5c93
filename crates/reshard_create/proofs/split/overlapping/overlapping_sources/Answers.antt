use Rattle.std.proofs.Common.{map, subst}
use Rattle.reshard_cutover.specs.Overlapping.{AreThose}
use Rattle.reshard_create.proofs.split.Growing.{grown_so, all_so, map_short}
use Rattle.reshard_cutover.proofs.Retiring.{map_at}
use Rattle.reshard_create.proofs.split.Those.{grown_those}
use Rattle.reshard_create.proofs.split.overlapping.overlapping_sources.Goals as goal

pub returns-clause-own : goal.returns-clause-own
returns-clause-own g c =
    all_so (map (λ s. s.member.which) c.args.sources.now) c.loop-source.source-index c.args.range.now (map (λ m. m.which) c.loop-source.own.members.items)
    (map_short (λ s. s.member.which) c.args.sources.now c.loop-source.source-index c.loop-source-test.false) c.loop-source.invariant.own

pub returns-clause-those : goal.returns-clause-those
returns-clause-those g c =
    subst (λ l. AreThose c.args.range.now l (map (λ m. m.which) c.loop-source.own.members.items))
    (Rattle.shard.proofs.Progress.take_whole c.loop-source.source-index (map (λ s. s.member.which) c.args.sources.now)
    (map_short (λ s. s.member.which) c.args.sources.now c.loop-source.source-index c.loop-source-test.false)) c.loop-source.invariant.those

pub loop-source-preserved : goal.loop-source-preserved
loop-source-preserved g c =
    let w = map_at (λ s. s.member.which) c.args.sources.now c.loop-source.source-index c.source-item.result c.loop-source-test.true c.source-item.is in
    record {
      slots = c.in_ok-consider.ensures.slots;
      own =
          grown_so (map (λ s. s.member.which) c.args.sources.now) c.loop-source.source-index c.args.range.now (map (λ m. m.which) c.loop-source.own.members.items)
          (map (λ m. m.which) c.consider.new.self.members.items) c.source-item.result.member.which w.0 w.1 c.loop-source.invariant.own c.in_ok-consider.ensures.grown;
      those =
          grown_those c.args.range.now (map (λ s. s.member.which) c.args.sources.now) c.loop-source.source-index (map (λ m. m.which) c.loop-source.own.members.items)
          (map (λ m. m.which) c.consider.new.self.members.items) c.source-item.result.member.which w.0 w.1 c.in_ok-consider.ensures.grown c.loop-source.invariant.those;
    }
