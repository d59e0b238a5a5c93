use Rattle.std.proofs.Common.{map, take}
use Rattle.std.specs.List.{AllByRecursion}
use Rattle.follow.specs.declared.steps.Step.TheVariants.{Level}
use Rattle.follow.specs.Steps.{IsOnward, HasMoved}
use Rattle.follow.specs.Turns.{EachInTurn, IsOneStep}
use Rattle.follow.proofs.steps.bring_forward_with.Given as goal

-- the target is level with the sources so far
abbrev pub invariant-loop-source : goal.invariant-loop-source
invariant-loop-source g l =
    record {
      onward : IsOnward g.W.World.opening l.fn.pass l.pass;
      level :
          AllByRecursion (λ s. HasMoved g.W.World.opening s.which l.target.which l.fn.pass l.pass Level) (take l.source-index l.sources);
      once :
          EachInTurn (λ s p q. IsOneStep s l.target.which p q Level) (map (λ s. s.which) (take l.source-index l.sources)) l.fn.pass l.pass;
    }
