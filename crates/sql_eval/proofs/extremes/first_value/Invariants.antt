use Rattle.std.proofs.Common.{◌≡◌, length, filter}
use Rattle.aggregate.specs.Aggregates.{values_of}
use Rattle.sql_eval.specs.Conditions.{is_kept}
use Rattle.sql_eval.proofs.extremes.first_value.Given as goal

-- the rows so far have no value
abbrev pub invariant-loop-row : goal.invariant-loop-row
invariant-loop-row g l =
    values_of l.column (filter (is_kept l.condition) (g.S.RowSource.to_come l.rows)) ≡ values_of l.fn.column (filter (is_kept l.fn.condition) (g.S.RowSource.to_come l.fn.rows))

abbrev pub decreases-loop-row : goal.decreases-loop-row
decreases-loop-row g l = length (filter (is_kept l.condition) (g.S.RowSource.to_come l.rows))
