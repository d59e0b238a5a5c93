use Rattle.std.proofs.Common.{◌≡◌, drop}
use Rattle.std.specs.List.{list_any}
use Rattle.vschema_json.specs.Faults.{table_has}
use Rattle.vschema_json.proofs.faults.some_table_has.Given as goal

abbrev pub invariant-loop-table : goal.invariant-loop-table
invariant-loop-table l = list_any (table_has l.fault l.keyspace) (drop l.table-index l.tables) ≡ list_any (table_has l.fault l.keyspace) l.tables
