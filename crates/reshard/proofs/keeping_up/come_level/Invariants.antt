use Rattle.std.proofs.Common.{map}
use Rattle.reshard_create.specs.FollowSteps.{IsOnward}
use Rattle.reshard.specs.Cutover.{HasMovedOn}
use Rattle.reshard.proofs.keeping_up.come_level.Given as goal

-- so far the targets came forward
abbrev pub invariant-loop : goal.invariant-loop
invariant-loop g l =
    record {
      next : (goal.iterator-loop g).can_next l.iterator';
      finite : (goal.iterator-loop g).is_finite l.iterator';
      onward : IsOnward g.W.World.opening l.fn.pass l.pass;
      further : HasMovedOn (map (λ t. (t.member.which, map (λ s. s.which) t.sources.items)) l.targets) l.fn.pass l.pass;
    }
