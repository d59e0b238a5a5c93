use Rattle.std.proofs.Common.{◌≡◌, true}
use Rattle.reshard_create.specs.FollowSteps.{IsOnward}
use Rattle.reshard.specs.declared.workflow.Stage.TheVariants.{None}
use Rattle.reshard.specs.Cutover.{HasSwitchedOn, IsFurther}
use Rattle.reshard.proofs.workflow.Workflow.finish.Given as goal

-- so far the cutover went on
abbrev pub invariant-loop : goal.invariant-loop
invariant-loop g l =
    record {
      next : (goal.iterator-loop g).can_next l.iterator';
      finite : (goal.iterator-loop g).is_finite l.iterator';
      further : IsFurther l.fn.self l.self;
      begun : l.self.stage ≡ None → ⊥;
      prepared : l.self.prepared ≡ true;
      steps : HasSwitchedOn g.W.World.opening l.fn.self l.fn.pass l.self l.pass;
      onward : IsOnward g.W.World.opening l.fn.pass l.pass;
    }
