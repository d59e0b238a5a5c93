use Rattle.std.proofs.Common.{◌≡◌, ◌≤◌, ◌++◌, length, map, reverse, take}
use Rattle.std.specs.Prelude.{vec_len, vec_capacity}
use Rattle.std.specs.List.{AllByRecursion}
use Rattle.reshard_create.specs.Configs.{IsFree}
use Rattle.reshard_create.specs.split.Splits.{target_seats}
use Rattle.reshard_create.specs.inner.Created.{IsMadeOf}
use Rattle.reshard_create.proofs.targets.make_targets.Given as goal

-- the targets of the ranges so far, enough free slots for the rest, and room for all of them again
abbrev pub invariant-loop-range : goal.invariant-loop-range
invariant-loop-range g l = record {
  free : AllByRecursion (IsFree g.W.World.opening) l.free.items;
  slots : map (λ s. s.slot) l.fn.free.items ≡ map (λ s. s.slot) l.free.items ++ reverse (map (λ t. t.member.which.slot) l.made.items);
  room : vec_len l.fn.free ≤ vec_capacity l.free;
  count : vec_len l.made ≡ l.range-index;
  space : length l.ranges ≤ vec_capacity l.made;
  ranges : map (λ t. t.member.which.place.range) l.made.items ≡ take l.range-index l.ranges;
  seats : map (λ t. t.member.shard.value) l.made.items ≡ target_seats (map (λ t. (t.member.which, map (λ s. s.which) t.sources.items)) l.made.items);
  made : AllByRecursion (IsMadeOf (map (λ s. s.member.which) l.sources) l.config.keyspace)
      (map (λ t. (t.member.which, map (λ s. s.which) t.sources.items)) l.made.items);
}
