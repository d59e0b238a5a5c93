use Rattle.std.proofs.Common.{[], ◌∷◌, map}
use Rattle.reshard_create.specs.FollowSteps.{IsOnward}
use Rattle.reshard.specs.Cutover.{HasMovedOn}
use Rattle.reshard.proofs.AllCopied.{IsCounted}
use Rattle.reshard.proofs.copying.copy_from_sources.Given as goal

-- so far the target came forward
abbrev pub invariant-loop : goal.invariant-loop
invariant-loop g l =
    record {
      next : (goal.iterator-loop g).can_next l.iterator';
      finite : (goal.iterator-loop g).is_finite l.iterator';
      onward : IsOnward g.W.World.opening l.fn.pass l.pass;
      come : HasMovedOn ((l.target.member.which, map (λ s. s.which) l.target.sources.items) ∷ []) l.fn.pass l.pass;
      counted : IsCounted g.W.World.opening (l.target.member.which, map (λ s. s.which) l.target.sources.items) l.fn.pass l.pass l.left;
    }
