use Rattle.std.proofs.Common.{◌≡◌, take, map}
use Rattle.aggregate.specs.Slices.{columns_of}
use Rattle.sql_eval.proofs.queries.project_rows.Given as goal

abbrev pub invariant-loop-row : goal.invariant-loop-row
invariant-loop-row l = l.list ≡ map (columns_of l.ordinals) (take l.row-index l.rows)
