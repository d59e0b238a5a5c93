use Rattle.std.proofs.Common.{◌≡◌, map, take}
use Rattle.reshard_create.proofs.reopening.rebuild.as_sources.Given as goal

-- the shards so far
abbrev pub invariant-loop-one : goal.invariant-loop-one
invariant-loop-one g l = map (λ s. s.member.which) l.sources.items ≡ map (λ f. f.member.which) (take l.one-index l.found)
