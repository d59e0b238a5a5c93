use Rattle.std.proofs.Common.{◌≡◌, ◌++◌, length}
use Rattle.shard_contents.proofs.KeyPositions.{positions_of}
use Rattle.shard_contents.proofs.changes_by_key.collect.Given as goal

-- the positions so far, with those still to come, are all
abbrev pub invariant-loop-entry : goal.invariant-loop-entry
invariant-loop-entry l = l.found.items ++ positions_of l.left ≡ l.fn.found.items ++ positions_of l.fn.entries

abbrev pub decreases-loop-entry : goal.decreases-loop-entry
decreases-loop-entry l = length l.left
