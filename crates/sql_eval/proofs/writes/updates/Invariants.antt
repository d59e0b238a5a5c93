use Rattle.std.proofs.Common.{◌≡◌, ◌++◌, length, flat_map}
use Rattle.sql_eval.specs.Writes.{row_updates}
use Rattle.sql_eval.proofs.writes.updates.Given as goal

-- the list so far, with what the other rows give, is all
abbrev pub invariant-loop-row : goal.invariant-loop-row
invariant-loop-row g l =
    l.changes ++ flat_map (row_updates l.ordinal l.assignments l.condition) (g.S.RowSource.to_come l.rows)
    ≡ flat_map (row_updates l.ordinal l.assignments l.fn.condition) (g.S.RowSource.to_come l.fn.rows)

abbrev pub decreases-loop-row : goal.decreases-loop-row
decreases-loop-row g l = length (g.S.RowSource.to_come l.rows)
