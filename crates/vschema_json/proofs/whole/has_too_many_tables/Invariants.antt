use Rattle.std.proofs.Common.{◌≡◌, nat_lt, length, drop}
use Rattle.vschema_json.specs.Faults.{all_tables}
use Rattle.vschema_json.proofs.whole.has_too_many_tables.Given as goal

abbrev pub invariant-loop-keyspace : goal.invariant-loop-keyspace
invariant-loop-keyspace l =
    nat_lt l.left (length (all_tables (drop l.keyspace-index l.keyspaces))) ≡ nat_lt 256 (length (all_tables l.keyspaces))
