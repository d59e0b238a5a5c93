use Rattle.std.proofs.Common.{◌≡◌, drop}
use Rattle.std.specs.List.{list_any}
use Rattle.vschema_json.specs.Faults.{lacks_column}
use Rattle.vschema_json.proofs.faults.some_name_lacks.Given as goal

abbrev pub invariant-loop-name : goal.invariant-loop-name
invariant-loop-name l = list_any (lacks_column l.table) (drop l.name-index l.names) ≡ list_any (lacks_column l.table) l.names
