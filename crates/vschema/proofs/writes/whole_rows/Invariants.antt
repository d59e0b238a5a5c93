use Rattle.std.proofs.Common.{◌≡◌, take, map}
use Rattle.vschema.specs.TypedWrites.{whole_row}
use Rattle.vschema.proofs.writes.whole_rows.Given as goal

abbrev pub invariant-loop-row : goal.invariant-loop-row
invariant-loop-row l = l.whole ≡ map (whole_row l.table l.ordinals) (take l.row-index l.rows)
