use Rattle.std.proofs.Common.{map, take}
use Rattle.follow.specs.Steps.{IsOnward}
use Rattle.follow.specs.Turns.{HasLookedAt}
use Rattle.reshard_cutover.specs.TargetSources.{TargetWithSources}
use Rattle.reshard_cutover.specs.Looks.{HaveServed}
use Rattle.reshard_cutover.proofs.confirming.all_served.Given as goal

-- the targets so far serve
abbrev pub invariant-loop-target : goal.invariant-loop-target
invariant-loop-target g l = record {
  onward : IsOnward g.W.World.opening l.fn.pass l.pass;
  looked :
      HasLookedAt (map (λ t. t.0.slot) (map {B = TargetWithSources} (λ t. (t.member.which, map (λ s. s.which) t.sources.items)) (take l.target-index l.targets)))
      l.fn.pass l.pass;
  served :
      HaveServed l.pass.seen (map (λ t. (t.member.which, map (λ s. s.which) t.sources.items)) (take l.target-index l.targets));
}
