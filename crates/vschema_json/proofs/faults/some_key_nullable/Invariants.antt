use Rattle.std.proofs.Common.{◌≡◌, drop}
use Rattle.std.specs.List.{list_any}
use Rattle.vschema_json.specs.Faults.{is_nullable}
use Rattle.vschema_json.proofs.faults.some_key_nullable.Given as goal

abbrev pub invariant-loop-key : goal.invariant-loop-key
invariant-loop-key l = list_any (λ e. is_nullable l.table e.column) (drop l.key-index l.keys) ≡ list_any (λ e. is_nullable l.table e.column) l.keys
