use Rattle.std.proofs.Common.{◌≡◌, ◌++◌, filter, not, take}
use Rattle.sql_eval.specs.Checks.{has_number}
use Rattle.shard_store.specs.Places.{vindex_ordinals}
use Rattle.shard_store.proofs.key_columns.key_ordinals.Given as goal

abbrev pub invariant-loop-ordinal : goal.invariant-loop-ordinal
invariant-loop-ordinal l =
    l.ordinals ≡ vindex_ordinals l.table.vindex ++ filter (λ n. not (has_number (vindex_ordinals l.table.vindex) n)) (take l.ordinal-index l.ordinal-items)
