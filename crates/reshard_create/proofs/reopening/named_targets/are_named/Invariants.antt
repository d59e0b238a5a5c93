use Rattle.std.proofs.Common.{take}
use Rattle.std.specs.Prelude.{Contains, IsTrue}
use Rattle.std.specs.List.{AllByRecursion}
use Rattle.reshard_cutover.specs.Steps.{has_source}
use Rattle.reshard_create.proofs.reopening.named_targets.are_named.Given as goal

-- the targets so far are named
abbrev pub invariant-loop-target : goal.invariant-loop-target
invariant-loop-target g l =
    AllByRecursion (λ f. IsTrue (has_source l.slot f.member.which) → Contains l.named f.member.which) (take l.target-index l.targets)
