use Rattle.std.proofs.Common.{◌++◌, length, IsPermutation}
use Rattle.shard_contents.proofs.sorted.add_copies.Given as goal

-- the copies so far, with the rows still to come, are all
abbrev pub invariant-loop-row : goal.invariant-loop-row
invariant-loop-row l = IsPermutation (l.rows.rows ++ l.all) (l.fn.rows.rows ++ l.fn.all)

abbrev pub decreases-loop-row : goal.decreases-loop-row
decreases-loop-row l = length l.all
