use Rattle.std.proofs.Common.{map, take}
use Rattle.std.specs.List.{AllByRecursion}
use Rattle.follow.specs.declared.steps.Step.TheVariants.{Level}
use Rattle.follow.specs.Steps.{IsOnward}
use Rattle.follow.specs.Turns.{EachInTurn, IsOneStepWith}
use Rattle.reshard_cutover.specs.TargetSources.{TargetWithSources}
use Rattle.reshard_cutover.proofs.Moving.{IsLevelWith}
use Rattle.reshard_cutover.proofs.next_move.move_first.Given as goal

-- the targets so far are level
abbrev pub invariant-loop-target : goal.invariant-loop-target
invariant-loop-target g l = record {
  onward : IsOnward g.W.World.opening l.fn.pass l.pass;
  level :
      AllByRecursion (IsLevelWith g.W.World.opening l.fn.pass l.pass)
      (map (λ t. (t.member.which, map (λ s. s.which) t.sources.items)) (take l.target-index l.targets));
  once :
      EachInTurn (λ t p q. IsOneStepWith t.1 t.0 p q Level)
      (map {B = TargetWithSources} (λ t. (t.member.which, map (λ s. s.which) t.sources.items)) (take l.target-index l.targets)) l.fn.pass l.pass;
}
