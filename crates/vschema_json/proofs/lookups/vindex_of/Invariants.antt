use Rattle.std.proofs.Common.{◌≡◌, drop, bytes_eq, option_and_then}
use Rattle.std.specs.List.{find}
use Rattle.vschema_json.specs.Faults.{vindex_of}
use Rattle.vschema_json.proofs.lookups.vindex_of.Given as goal

abbrev pub invariant-loop-vindex : goal.invariant-loop-vindex
invariant-loop-vindex l =
    option_and_then (λ v. v.kind) (find (λ v. bytes_eq v.name l.name) (drop l.vindex-index l.declared)) ≡ vindex_of l.keyspace l.name
