use Rattle.std.proofs.Common.{◌≡◌, ◌+◌, ◌≤◌, ◌++◌, length, map, reverse}
use Rattle.std.specs.Prelude.{vec_len, vec_capacity}
use Rattle.std.specs.List.{AllByRecursion}
use Rattle.reshard_create.specs.Configs.{IsFree}
use Rattle.reshard_create.proofs.seats_back.give_back.Given as goal

-- the seats of the targets so far lie after the others, and there is room for the rest
abbrev pub invariant-loop-target : goal.invariant-loop-target
invariant-loop-target g l = record {
  free : AllByRecursion (IsFree g.W.World.opening) l.free.items;
  room : vec_len l.free + length l.rest.items ≤ vec_capacity l.free;
  slots : map (λ s. s.slot) l.free.items ++ reverse (map (λ t. t.member.which.slot) l.rest.items)
      ≡ map (λ s. s.slot) l.fn.free.items ++ reverse (map (λ t. t.member.which.slot) l.fn.made.items);
}

abbrev pub decreases-loop-target : goal.decreases-loop-target
decreases-loop-target g l = length l.rest.items
