use Rattle.std.proofs.Common.{map, take}
use Rattle.std.specs.List.{AllByRecursion}
use Rattle.follow.specs.Steps.{IsOnward}
use Rattle.follow.specs.Turns.{HasLookedAt}
use Rattle.reshard_cutover.specs.Looks.{IsGone}
use Rattle.reshard_cutover.proofs.confirming.all_gone.Given as goal

-- the sources so far are retired
abbrev pub invariant-loop-source : goal.invariant-loop-source
invariant-loop-source g l = record {
  onward : IsOnward g.W.World.opening l.fn.pass l.pass;
  looked : HasLookedAt (map (λ s. s.slot) (map (λ s. s.member.which) (take l.source-index l.sources))) l.fn.pass l.pass;
  gone : AllByRecursion (IsGone l.pass.seen) (map (λ s. s.member.which) (take l.source-index l.sources));
}
