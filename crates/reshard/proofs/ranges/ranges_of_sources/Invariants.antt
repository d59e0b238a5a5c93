use Rattle.std.proofs.Common.{◌≡◌, map, take}
use Rattle.reshard.proofs.ranges.ranges_of_sources.Given as goal

-- the ranges so far
abbrev pub invariant-loop-source : goal.invariant-loop-source
invariant-loop-source g l = l.ranges.items ≡ map (λ s. s.member.which.place.range) (take l.source-index l.sources)
