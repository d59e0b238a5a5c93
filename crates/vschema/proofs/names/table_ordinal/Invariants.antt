use Rattle.std.proofs.Common.{◌≡◌, drop}
use Rattle.std.specs.Prelude.{bytes_eq}
use Rattle.vschema.specs.Schema.{ordinal_from, table_ordinal}
use Rattle.vschema.proofs.names.table_ordinal.Given as goal

abbrev pub invariant-loop-ordinal : goal.invariant-loop-ordinal
invariant-loop-ordinal l = ordinal_from (λ t. bytes_eq t.name l.name) l.ordinal (drop l.ordinal l.schema.tables) ≡ table_ordinal l.schema l.name
