use Rattle.std.proofs.Common.{◌≡◌, ◌++◌, List, length, filter}
use Rattle.vt_value.specs.Values.{Row as Line}
use Rattle.sql_eval.specs.Conditions.{is_kept}
use Rattle.sql_eval.specs.inner.Totals.{totals_of}
use Rattle.sql_eval.proofs.totals.totals.Given as goal

-- the totals are those of the rows so far, which with those to come are all
abbrev pub invariant-loop-row : goal.invariant-loop-row
invariant-loop-row g l =
    (seen : List Line) × (seen ++ filter (is_kept l.condition) (g.S.RowSource.to_come l.rows) ≡ filter (is_kept l.fn.condition) (g.S.RowSource.to_come l.fn.rows))
    × (l.totals.items ≡ totals_of l.aggregates seen)

abbrev pub decreases-loop-row : goal.decreases-loop-row
decreases-loop-row g l = length (filter (is_kept l.condition) (g.S.RowSource.to_come l.rows))
