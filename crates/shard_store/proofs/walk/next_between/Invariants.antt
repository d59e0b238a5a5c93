use Rattle.std.proofs.Common.{◌≡◌, length}
use Rattle.shard_store.specs.Slots.{rows_in, run_of, goes_on}
use Rattle.shard_store.proofs.walk.next_between.Given as goal

abbrev pub invariant-loop-key : goal.invariant-loop-key
invariant-loop-key l = rows_in (run_of (goes_on l.first l.below) l.slots) ≡ rows_in (run_of (goes_on l.fn.first l.fn.below) l.fn.slots)

abbrev pub decreases-loop-key : goal.decreases-loop-key
decreases-loop-key l = length l.slots
