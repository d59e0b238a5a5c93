use Rattle.std.proofs.Common.{◌≡◌, ◌++◌, drop, IsPermutation}
use Rattle.shard_contents.proofs.rows_left.add_first.Given as goal

-- so many are added, and the others come next
abbrev pub invariant-loop-at : goal.invariant-loop-at
invariant-loop-at l =
    record { next : l.next ≡ drop l.at l.fn.first; rows : IsPermutation (l.rows.rows ++ l.next) (l.fn.rows.rows ++ l.fn.first) }
