use Rattle.std.proofs.Common.{map, take}
use Rattle.std.specs.List.{AllByRecursion}
use Rattle.follow.specs.Steps.{IsOnward}
use Rattle.follow.specs.Turns.{EachInTurn}
use Rattle.reshard_cutover.specs.Looks.{HasThawed, IsServingAgain}
use Rattle.reshard_cutover.proofs.thawing.unfreeze_all.Given as goal

-- the sources so far serve
abbrev pub invariant-loop-source : goal.invariant-loop-source
invariant-loop-source g l =
    record {
      onward : IsOnward g.W.World.opening l.fn.pass l.pass;
      serve : AllByRecursion (λ s. IsServingAgain g.W.World.opening s l.fn.pass l.pass) (map (λ s. s.member.which) (take l.source-index l.sources));
      thawed : EachInTurn (HasThawed g.W.World.opening) (map (λ s. s.member.which) (take l.source-index l.sources)) l.fn.pass l.pass;
    }
