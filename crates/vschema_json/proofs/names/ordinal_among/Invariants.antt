use Rattle.std.proofs.Common.{◌≡◌, drop}
use Rattle.std.specs.Prelude.{bytes_eq}
use Rattle.vschema_json.specs.Places.{ordinal_from}
use Rattle.vschema_json.proofs.names.ordinal_among.Given as goal

abbrev pub invariant-loop-ordinal : goal.invariant-loop-ordinal
invariant-loop-ordinal l =
    ordinal_from (λ c. bytes_eq c.name l.name) l.ordinal (drop l.ordinal l.columns) ≡ ordinal_from (λ c. bytes_eq c.name l.name) 0 l.columns
