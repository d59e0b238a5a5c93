use Rattle.std.proofs.Common.{◌≡◌, map, subst}
use Rattle.std.specs.Prelude.{IfSome}
use Rattle.reshard_cutover.proofs.Moves.{at_not_some, at_some}
use Rattle.reshard_create.specs.reopening.Rebuilt.{TakesThose}
use Rattle.reshard_create.specs.reopening.inner.Snapshots.{IsRebuiltTarget}
use Rattle.reshard_cutover.proofs.Retiring.{item_of, map_at}
use Rattle.reshard_create.proofs.reopening.Founds.{mapped_next, pushed}
use Rattle.reshard_create.proofs.reopening.rebuild.targets_of.Goals as goal

pub returns-in_default-clause-which : goal.returns-in_default-clause-which
returns-in_default-clause-which g c all =
    let w = map_at (λ f. f.member.which) c.args.found.now c.loop-one.one-index c.one-item.result c.loop-one-test.true c.one-item.is in
    at_not_some _ _ c.in_ok-target.field-0 c.in_default.not-Some c.in_ok-target.ensures.which
    (item_of (TakesThose (map (λ s. s.member.which) c.args.sources.now)) (map (λ f. f.member.which) c.args.found.now) c.loop-one.one-index
    c.one-item.result.member.which w.0 w.1 all)

pub loop-one-preserved : goal.loop-one-preserved
loop-one-preserved g c = record {
  which =
      mapped_next (λ t. t.member.which) (λ f. f.member.which) c.args.found.now c.loop-one.one-index c.one-item.result c.loop-one.targets.items c.push.new.self.items
      c.in-Some.target c.loop-one-test.true c.one-item.is c.in_ok-push.ensures.items c.loop-one.invariant.which
      (at_some _ _ c.in_ok-target.field-0 c.in-Some.target c.in-Some.is c.in_ok-target.ensures.which);
  shards =
      mapped_next (λ t. t.member.shard.value) (λ f. f.member.shard.value) c.args.found.now c.loop-one.one-index c.one-item.result c.loop-one.targets.items
      c.push.new.self.items c.in-Some.target c.loop-one-test.true c.one-item.is c.in_ok-push.ensures.items c.loop-one.invariant.shards
      (subst (λ r. IfSome r (λ t. t.member.shard.value ≡ c.one-item.result.member.shard.value)) c.in-Some.is c.in_ok-target.ensures.shard);
  taken =
      pushed (IsRebuiltTarget (map (λ s. s.member.which) c.args.sources.now)) (λ t. (t.member.which, map (λ s. s.which) t.sources.items)) c.loop-one.targets.items
      c.push.new.self.items c.in-Some.target c.in_ok-push.ensures.items c.loop-one.invariant.taken
      (subst (λ r. IfSome r (λ t. IsRebuiltTarget (map (λ s. s.member.which) c.args.sources.now) (t.member.which, map (λ s. s.which) t.sources.items))) c.in-Some.is
      c.in_ok-target.ensures.taken);
}
