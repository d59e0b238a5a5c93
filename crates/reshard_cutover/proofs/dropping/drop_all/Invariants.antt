use Rattle.std.proofs.Common.{map, take}
use Rattle.std.specs.List.{AllByRecursion}
use Rattle.follow.specs.Steps.{IsOnward}
use Rattle.follow.specs.Turns.{HasLookedAt}
use Rattle.reshard_cutover.specs.Looks.{IsOutOfUse}
use Rattle.reshard_cutover.proofs.dropping.drop_all.Given as goal

-- the sources so far are out of use
abbrev pub invariant-loop-source : goal.invariant-loop-source
invariant-loop-source g l = record {
  onward : IsOnward g.W.World.opening l.fn.pass l.pass;
  looked : HasLookedAt (map (λ s. s.slot) (map (λ s. s.member.which) (take l.source-index l.sources))) l.fn.pass l.pass;
  out : AllByRecursion (λ s. IsOutOfUse g.W.World.opening s l.fn.pass l.pass) (map (λ s. s.member.which) (take l.source-index l.sources));
}
