use Rattle.std.proofs.Common.{◌≡◌, map, take}
use Rattle.reshard_cutover.specs.Steps.{named_for}
use Rattle.reshard_cutover.proofs.cutover_memory.named_of_all.Given as goal

-- for the sources so far
abbrev pub invariant-loop-source : goal.invariant-loop-source
invariant-loop-source g l = l.all.items ≡ map (λ s. named_for s.member.which (map (λ t. t.member.which) l.targets)) (take l.source-index l.sources)
