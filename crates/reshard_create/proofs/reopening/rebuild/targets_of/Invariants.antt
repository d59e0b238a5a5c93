use Rattle.std.proofs.Common.{◌≡◌, map, take}
use Rattle.std.specs.List.{AllByRecursion}
use Rattle.reshard_create.specs.reopening.inner.Snapshots.{IsRebuiltTarget}
use Rattle.reshard_create.proofs.reopening.rebuild.targets_of.Given as goal

-- the targets so far
abbrev pub invariant-loop-one : goal.invariant-loop-one
invariant-loop-one g l = record {
  which : map (λ t. t.member.which) l.targets.items ≡ map (λ f. f.member.which) (take l.one-index l.found);
  shards : map (λ t. t.member.shard.value) l.targets.items ≡ map (λ f. f.member.shard.value) (take l.one-index l.found);
  taken : AllByRecursion (IsRebuiltTarget (map (λ s. s.member.which) l.sources)) (map (λ t. (t.member.which, map (λ s. s.which) t.sources.items)) l.targets.items);
}
