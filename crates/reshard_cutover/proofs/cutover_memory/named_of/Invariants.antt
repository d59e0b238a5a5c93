use Rattle.std.proofs.Common.{◌≡◌, filter, map, take}
use Rattle.reshard_cutover.specs.Steps.{has_source}
use Rattle.reshard_cutover.proofs.cutover_memory.named_of.Given as goal

-- of the targets so far
abbrev pub invariant-loop-target : goal.invariant-loop-target
invariant-loop-target g l = l.named ≡ filter (has_source l.source) (map (λ t. t.member.which) (take l.target-index l.targets))
