use Rattle.std.proofs.Common.{map, take}
use Rattle.std.specs.List.{AllByRecursion}
use Rattle.reshard_create.specs.FollowSteps.{IsOnward}
use Rattle.reshard_create.specs.TargetSources.{TargetWithSources}
use Rattle.reshard.specs.Cutover.{HaveCome, HasCopiedAllOf}
use Rattle.reshard.proofs.copying.copy_all.Given as goal

-- the targets so far have copied all
abbrev pub invariant-loop-target : goal.invariant-loop-target
invariant-loop-target g l =
    record {
      onward : IsOnward g.W.World.opening l.fn.pass l.pass;
      copied :
          AllByRecursion (HasCopiedAllOf g.W.World.opening l.fn.pass l.pass)
          (map {B = TargetWithSources} (λ t. (t.member.which, map (λ s. s.which) t.sources.items)) (take l.target-index l.targets));
      come : HaveCome (map (λ t. (t.member.which, map (λ s. s.which) t.sources.items)) (take l.target-index l.targets)) l.fn.pass l.pass;
    }
