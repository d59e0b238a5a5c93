use Rattle.std.proofs.Common.{◌≡◌, drop}
use Rattle.std.specs.List.{list_any}
use Rattle.vschema_json.specs.Faults.{is_nullable}
use Rattle.vschema_json.proofs.faults.some_name_nullable.Given as goal

abbrev pub invariant-loop-name : goal.invariant-loop-name
invariant-loop-name l = list_any (is_nullable l.table) (drop l.name-index l.names) ≡ list_any (is_nullable l.table) l.names
