use Rattle.std.proofs.Common.{take}
use Rattle.std.specs.List.{AllByRecursion}
use Rattle.reshard_cutover.specs.FollowSteps.{IsOnward}
use Rattle.reshard_cutover.specs.Turns.{HasLookedAt}
use Rattle.reshard_create.specs.Looked.{slots_of}
use Rattle.reshard_create.specs.Begun.{IsNotFollowing}
use Rattle.reshard_create.specs.inner.Created.{HasSeen}
use Rattle.reshard_create.proofs.looks.look_at_each.Given as goal

-- the parts so far were found
abbrev pub invariant-loop-part : goal.invariant-loop-part
invariant-loop-part g l = record {
  onward : IsOnward g.W.World.opening l.fn.pass l.pass;
  looked : HasLookedAt (slots_of (take l.part-index l.parts)) l.fn.pass l.pass;
  seen : AllByRecursion (HasSeen g.W.World.opening l.fn.pass l.pass l.keyspace IsNotFollowing) (take l.part-index l.parts);
}
