use Rattle.std.proofs.Common.{take}
use Rattle.std.specs.List.{AllByRecursion}
use Rattle.shard_calls.specs.Answers.{HasGone, WasFound}
use Rattle.shard_calls.proofs.parts.look_at_each.Given as goal

-- the parts so far were found
abbrev pub invariant-loop-part : goal.invariant-loop-part
invariant-loop-part g l = record {
  gone : HasGone g.W.World.opening l.fn.pass l.pass;
  found : AllByRecursion (WasFound g.W.World.opening l.fn.pass.seen l.pass.seen) (take l.part-index l.parts);
}
