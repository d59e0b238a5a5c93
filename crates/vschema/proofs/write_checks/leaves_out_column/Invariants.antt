use Rattle.std.proofs.Common.{◌≡◌, drop}
use Rattle.std.specs.Prelude.{not, ◌&&◌, zip}
use Rattle.std.specs.List.{list_any}
use Rattle.vschema.specs.Resolved.{ordinals_from}
use Rattle.vschema.specs.Checks.{has_number}
use Rattle.vschema.proofs.write_checks.leaves_out_column.Given as goal

abbrev pub invariant-loop-ordinal : goal.invariant-loop-ordinal
invariant-loop-ordinal l =
    list_any (λ p. not p.1.nullable && not (has_number l.ordinals p.0)) (zip (ordinals_from l.ordinal (drop l.ordinal l.table.columns)) (drop l.ordinal l.table.columns))
    ≡ list_any (λ p. not p.1.nullable && not (has_number l.ordinals p.0)) (zip (ordinals_from 0 l.table.columns) l.table.columns)
