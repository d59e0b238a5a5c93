use Rattle.std.proofs.Common.{◌≡◌, map, take}
use Rattle.std.specs.List.{AllByRecursion}
use Rattle.reshard_cutover.specs.FollowSteps.{IsOnward}
use Rattle.reshard_cutover.specs.Turns.{HasLookedAt}
use Rattle.reshard_create.specs.Looked.{slots_of}
use Rattle.shard.specs.Seats.{seat_of}
use Rattle.reshard_create.specs.reopening.Rebuilt.{IsFound}
use Rattle.reshard_create.proofs.reopening.found_shards.find_all.Given as goal

-- the shards of the parts so far
abbrev pub invariant-loop-part : goal.invariant-loop-part
invariant-loop-part g l = record {
  onward : IsOnward g.W.World.opening l.fn.pass l.pass;
  seats : map (λ f. seat_of f.member.which) l.found.items ≡ take l.part-index l.parts;
  shards : map (λ f. f.member.shard.value) l.found.items ≡ take l.part-index l.parts;
  looked : HasLookedAt (slots_of (take l.part-index l.parts)) l.fn.pass l.pass;
  each : AllByRecursion (IsFound g.W.World.opening l.fn.pass l.pass) (map (λ f. (f.member.which, f.mode, f.named)) l.found.items);
}
