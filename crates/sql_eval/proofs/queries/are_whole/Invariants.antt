use Rattle.std.proofs.Common.{◌≡◌, map, take}
use Rattle.aggregate.specs.Slices.{columns_of}
use Rattle.sql_eval.proofs.queries.are_whole.Given as goal

-- the rows so far are shown as they are
abbrev pub invariant-loop-row : goal.invariant-loop-row
invariant-loop-row l = map (columns_of l.ordinals) (take l.row-index l.rows) ≡ take l.row-index l.rows
