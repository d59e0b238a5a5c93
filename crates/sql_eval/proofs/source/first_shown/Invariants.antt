use Rattle.std.proofs.Common.{◌≡◌, map, take, drop, filter}
use Rattle.aggregate.specs.Slices.{columns_of}
use Rattle.sql_eval.specs.Conditions.{is_kept}
use Rattle.sql_eval.specs.Grouping.{shown_ordinal}
use Rattle.sql_eval.proofs.source.first_shown.Given as goal

-- what is shown is of the rows that have been lent
abbrev pub invariant-loop : goal.invariant-loop
invariant-loop g l =
    (l.list ≡ map (columns_of (map shown_ordinal l.items)) (take l.counter (filter (is_kept l.fn.condition) (g.S.RowSource.to_come l.fn.rows))))
    × (filter (is_kept l.condition) (g.S.RowSource.to_come l.rows) ≡ drop l.counter (filter (is_kept l.fn.condition) (g.S.RowSource.to_come l.fn.rows)))
