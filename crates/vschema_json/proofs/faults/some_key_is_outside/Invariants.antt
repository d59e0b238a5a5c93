use Rattle.std.proofs.Common.{◌≡◌, drop, not, bytes_eq}
use Rattle.std.specs.List.{list_any}
use Rattle.vschema_json.proofs.faults.some_key_is_outside.Given as goal

abbrev pub invariant-loop-key : goal.invariant-loop-key
invariant-loop-key l = list_any (λ e. not (list_any (bytes_eq e.column) l.names)) (drop l.key-index l.keys) ≡ list_any (λ e. not (list_any (bytes_eq e.column) l.names)) l.keys
