use Rattle.std.proofs.Common.{◌≡◌, ◌++◌, length, map, filter}
use Rattle.aggregate.specs.Slices.{columns_of}
use Rattle.sql_eval.specs.Conditions.{is_kept}
use Rattle.sql_eval.specs.Grouping.{shown_ordinal}
use Rattle.sql_eval.proofs.source.all_shown.Given as goal

-- the rows so far, with those still to come, are all
abbrev pub invariant-loop-row : goal.invariant-loop-row
invariant-loop-row g l =
    l.list ++ map (columns_of (map shown_ordinal l.items)) (filter (is_kept l.condition) (g.S.RowSource.to_come l.rows))
    ≡ map (columns_of (map shown_ordinal l.fn.items)) (filter (is_kept l.fn.condition) (g.S.RowSource.to_come l.fn.rows))

abbrev pub decreases-loop-row : goal.decreases-loop-row
decreases-loop-row g l = length (filter (is_kept l.condition) (g.S.RowSource.to_come l.rows))
