use Rattle.std.proofs.Common.{◌≡◌, ◌++◌, length, map, filter}
use Rattle.vschema.specs.declared.changes.RowChange.TheVariants.{Removed}
use Rattle.sql_eval.specs.Conditions.{is_kept}
use Rattle.sql_eval.proofs.writes.removals.Given as goal

-- the list so far, with what the other rows give, is all
abbrev pub invariant-loop-row : goal.invariant-loop-row
invariant-loop-row g l =
    l.changes ++ map (Removed l.ordinal) (filter (is_kept l.condition) (g.S.RowSource.to_come l.rows))
    ≡ map (Removed l.ordinal) (filter (is_kept l.fn.condition) (g.S.RowSource.to_come l.fn.rows))

abbrev pub decreases-loop-row : goal.decreases-loop-row
decreases-loop-row g l = length (filter (is_kept l.condition) (g.S.RowSource.to_come l.rows))
