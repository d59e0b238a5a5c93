use Rattle.std.proofs.Common.{◌≡◌, take, map}
use Rattle.vt_value.specs.Values.{value_at}
use Rattle.operators.proofs.columns.project_row.Given as goal

abbrev pub invariant-loop-ordinal : goal.invariant-loop-ordinal
invariant-loop-ordinal l = l.values ≡ map (value_at l.row) (take l.ordinal-index l.ordinals)
