use Rattle.std.proofs.Common.{◌≡◌, map, take}
use Rattle.sql_eval.proofs.duplicates.lent.Given as goal

abbrev pub invariant-loop-row : goal.invariant-loop-row
invariant-loop-row l = map (λ row. row.now) l.list.items ≡ take l.row-index l.rows
