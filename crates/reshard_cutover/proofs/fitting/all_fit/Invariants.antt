use Rattle.std.proofs.Common.{map, take}
use Rattle.std.specs.List.{AllByRecursion}
use Rattle.follow.specs.Steps.{IsOnward}
use Rattle.reshard_cutover.specs.TargetSources.{TargetWithSources}
use Rattle.follow.specs.Turns.{HasLookedAt}
use Rattle.reshard_cutover.specs.Looks.{IsWithinRows}
use Rattle.reshard_cutover.proofs.fitting.all_fit.Given as goal

-- the targets so far fit
abbrev pub invariant-loop-target : goal.invariant-loop-target
invariant-loop-target g l =
    record {
      onward : IsOnward g.W.World.opening l.fn.pass l.pass;
      few :
          AllByRecursion (λ t. IsWithinRows g.W.World.opening g.W.World.limits t.0 l.fn.pass l.pass)
          (map {B = TargetWithSources} (λ t. (t.member.which, map (λ s. s.which) t.sources.items)) (take l.target-index l.targets));
      looked :
          HasLookedAt (map (λ t. t.0.slot) (map {B = TargetWithSources} (λ t. (t.member.which, map (λ s. s.which) t.sources.items)) (take l.target-index l.targets)))
          l.fn.pass l.pass;
    }
