use Rattle.std.proofs.Common.{◌≡◌, ◌++◌, length, reverse, drop, take}
use Rattle.aggregate.proofs.groups.move_parts.Given as goal

-- the row's group values are there still, and its parts are those that it has and those that were moved
abbrev pub invariant-loop-row : goal.invariant-loop-row
invariant-loop-row l =
    (take l.width l.row ≡ take l.width l.fn.row) × (drop l.width l.row ++ reverse l.parts.items ≡ drop l.width l.fn.row)

abbrev pub decreases-loop-row : goal.decreases-loop-row
decreases-loop-row l = length l.row
