use Rattle.std.proofs.Common.{◌≡◌, drop}
use Rattle.std.specs.List.{list_any}
use Rattle.vschema_json.specs.Faults.{lacks_column}
use Rattle.vschema_json.proofs.faults.some_key_lacks.Given as goal

abbrev pub invariant-loop-key : goal.invariant-loop-key
invariant-loop-key l = list_any (λ e. lacks_column l.table e.column) (drop l.key-index l.keys) ≡ list_any (λ e. lacks_column l.table e.column) l.keys
