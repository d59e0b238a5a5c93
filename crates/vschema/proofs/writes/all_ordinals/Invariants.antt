use Rattle.std.proofs.Common.{◌≡◌, ◌++◌, drop}
use Rattle.vschema.specs.Resolved.{ordinals_from}
use Rattle.vschema.proofs.writes.all_ordinals.Given as goal

abbrev pub invariant-loop-ordinal : goal.invariant-loop-ordinal
invariant-loop-ordinal l = l.ordinals ++ ordinals_from l.ordinal (drop l.ordinal l.table.columns) ≡ ordinals_from 0 l.table.columns
