use Rattle.std.proofs.Common.{map, take}
use Rattle.follow.specs.Steps.{IsOnward}
use Rattle.follow.specs.Turns.{EachInTurn}
use Rattle.reshard_cutover.specs.Looks.{HasLookedOnlyAt}
use Rattle.reshard_cutover.specs.Steps.{AreRetired}
use Rattle.reshard_cutover.proofs.confirming.confirm_retired.Given as goal

-- the sources so far are retired
abbrev pub invariant-loop-source : goal.invariant-loop-source
invariant-loop-source g l = record {
  onward : IsOnward g.W.World.opening l.fn.pass l.pass;
  retired : AreRetired l.pass.seen l.target (map (λ s. (s.member.which, s.stored)) (take l.source-index l.sources));
  looked : EachInTurn (λ s. HasLookedOnlyAt s.slot) (map (λ s. s.member.which) (take l.source-index l.sources)) l.fn.pass l.pass;
}
