use Rattle.std.proofs.Common.{◌≡◌, length, reverse}
use Rattle.shard_store.specs.Slots.{rows_in, is_from, run_of}
use Rattle.shard_store.proofs.walk.next_back.Given as goal

abbrev pub invariant-loop-key : goal.invariant-loop-key
invariant-loop-key l = rows_in (run_of (is_from l.from) (reverse l.slots)) ≡ rows_in (run_of (is_from l.fn.from) (reverse l.fn.slots))

abbrev pub decreases-loop-key : goal.decreases-loop-key
decreases-loop-key l = length l.slots
