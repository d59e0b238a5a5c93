use Rattle.std.proofs.Common.{◌≡◌, ◌++◌, drop, map}
use Rattle.vschema.specs.Resolved.{ordinals_from}
use Rattle.vschema.specs.TypedWrites.{value_for, whole_row}
use Rattle.vschema.proofs.writes.whole_row.Given as goal

abbrev pub invariant-loop-ordinal : goal.invariant-loop-ordinal
invariant-loop-ordinal l =
    l.row ++ map (value_for l.ordinals l.values) (ordinals_from l.ordinal (drop l.ordinal l.table.columns)) ≡ whole_row l.table l.ordinals l.values
