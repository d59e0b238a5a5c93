use Rattle.std.proofs.Common.{◌≡◌, length, filter}
use Rattle.sql_eval.specs.Conditions.{is_kept}
use Rattle.sql_eval.proofs.source.next_passing.Given as goal

-- no row that is kept was passed over
abbrev pub invariant-loop-row : goal.invariant-loop-row
invariant-loop-row g l = filter (is_kept l.condition) (g.S.RowSource.to_come l.rows) ≡ filter (is_kept l.fn.condition) (g.S.RowSource.to_come l.fn.rows)

abbrev pub decreases-loop-row : goal.decreases-loop-row
decreases-loop-row g l = length (g.S.RowSource.to_come l.rows)
