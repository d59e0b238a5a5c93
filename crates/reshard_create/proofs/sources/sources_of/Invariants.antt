use Rattle.std.proofs.Common.{◌≡◌, map, take}
use Rattle.std.specs.List.{AllByRecursion}
use Rattle.serving.specs.Partitions.{Seat}
use Rattle.reshard_cutover.specs.FollowSteps.{IsOnward}
use Rattle.reshard_create.specs.Begun.{WasSeen, IsServing}
use Rattle.reshard_create.specs.inner.Created.{HasLookedAtAll}
use Rattle.reshard_create.proofs.sources.sources_of.Given as goal

-- the shards of the parts so far
abbrev pub invariant-loop-part : goal.invariant-loop-part
invariant-loop-part g l = record {
  onward : IsOnward g.W.World.opening l.fn.pass l.pass;
  seats : map {B = Seat} (λ s. (s.member.which.slot, s.member.which.place.range, s.member.which.place.keyspace)) l.sources.items ≡ take l.part-index l.parts;
  home : AllByRecursion (λ s. s.member.which.place.keyspace ≡ l.keyspace) l.sources.items;
  served : AllByRecursion (λ s. WasSeen g.W.World.opening l.fn.pass l.pass IsServing s.member.which) l.sources.items;
  all : HasLookedAtAll g.W.World.opening l.fn.pass l.pass l.keyspace (take l.part-index l.parts);
}
