use Rattle.std.proofs.Common.{◌≡◌, ◌++◌, List, length}
use Rattle.vt_value.specs.Values.{Row}
use Rattle.aggregate.specs.inner.Grouping.{IsGrouped}
use Rattle.aggregate.proofs.groups.GroupMerge.new.Given as goal

-- the groups are those of the rows that came, and the others are still to come
abbrev pub invariant-loop-parts : goal.invariant-loop-parts
invariant-loop-parts g l =
    (rows : List Row) × (rows ++ g.O.Operator.to_come l.input ≡ g.O.Operator.to_come l.fn.input) × IsGrouped l.aggregates l.width rows l.groups

abbrev pub decreases-loop-parts : goal.decreases-loop-parts
decreases-loop-parts g l = length (g.O.Operator.to_come l.input)
