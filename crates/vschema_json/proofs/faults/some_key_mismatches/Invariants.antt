use Rattle.std.proofs.Common.{◌≡◌, drop}
use Rattle.std.specs.List.{list_any}
use Rattle.vschema_json.specs.Faults.{mismatch, vindex_of, column_of}
use Rattle.vschema_json.proofs.faults.some_key_mismatches.Given as goal

abbrev pub invariant-loop-key : goal.invariant-loop-key
invariant-loop-key l = list_any (λ e. mismatch (vindex_of l.keyspace e.vindex) (column_of l.table e.column)) (drop l.key-index l.keys) ≡ list_any (λ e. mismatch (vindex_of l.keyspace e.vindex) (column_of l.table e.column)) l.keys
