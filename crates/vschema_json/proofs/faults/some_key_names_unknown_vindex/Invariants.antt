use Rattle.std.proofs.Common.{◌≡◌, drop, is_none}
use Rattle.std.specs.List.{list_any}
use Rattle.vschema_json.specs.Faults.{vindex_of}
use Rattle.vschema_json.proofs.faults.some_key_names_unknown_vindex.Given as goal

abbrev pub invariant-loop-key : goal.invariant-loop-key
invariant-loop-key l = list_any (λ e. is_none (vindex_of l.keyspace e.vindex)) (drop l.key-index l.keys) ≡ list_any (λ e. is_none (vindex_of l.keyspace e.vindex)) l.keys
