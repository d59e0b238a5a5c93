use Rattle.std.proofs.Common.{◌≡◌, drop}
use Rattle.std.specs.Prelude.{bytes_eq}
use Rattle.vschema_json.specs.Faults.{vindexes}
use Rattle.vschema_json.specs.Places.{ordinal_from}
use Rattle.vschema.proofs.meaning.vindex_number.Given as goal

abbrev pub invariant-loop-number : goal.invariant-loop-number
invariant-loop-number l =
    ordinal_from (λ v. bytes_eq v.name l.name) l.number (drop l.number (vindexes l.keyspace)) ≡ ordinal_from (λ v. bytes_eq v.name l.name) 0 (vindexes l.keyspace)
