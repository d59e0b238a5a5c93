use Rattle.std.proofs.Common.{◌≡◌, ◌++◌, List, length}
use Rattle.std.specs.Vec.Iter.{into_iter_items, into_iter_len}
use Rattle.shard_calls.specs.Answers.{HasGone}
use Rattle.shard_calls.proofs.scatter.hold_up.Given as goal

-- the looks so far are joined, and those still to come are the last ones
abbrev pub invariant-loop-one : goal.invariant-loop-one
invariant-loop-one g l =
    record {
      gone : HasGone g.W.World.opening l.fn.pass l.pass;
      to_come : (front : List _) × (front ++ into_iter_items l.one-iterator ≡ l.fn.done.items);
      long : into_iter_len l.one-iterator ≡ length (into_iter_items l.one-iterator);
    }
