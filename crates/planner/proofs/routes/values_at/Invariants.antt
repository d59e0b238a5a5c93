use Rattle.std.proofs.Common.{◌≡◌, take, map}
use Rattle.vt_value.specs.Values.{value_at}
use Rattle.planner.proofs.routes.values_at.Given as goal

abbrev pub invariant-loop-row : goal.invariant-loop-row
invariant-loop-row l = l.list ≡ map (λ row. value_at row l.vindex.column) (take l.row-index l.rows)
