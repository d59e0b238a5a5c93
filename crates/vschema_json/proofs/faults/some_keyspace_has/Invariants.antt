use Rattle.std.proofs.Common.{◌≡◌, ◌||◌, drop}
use Rattle.std.specs.List.{list_any}
use Rattle.vschema_json.specs.Faults.{table_has, keyspace_has}
use Rattle.vschema_json.proofs.faults.some_keyspace_has.Given as goal

abbrev pub invariant-loop-keyspace : goal.invariant-loop-keyspace
invariant-loop-keyspace l =
    list_any (λ k. keyspace_has l.fault k || list_any (table_has l.fault k) k.tables) (drop l.keyspace-index l.keyspaces)
    ≡ list_any (λ k. keyspace_has l.fault k || list_any (table_has l.fault k) k.tables) l.keyspaces
