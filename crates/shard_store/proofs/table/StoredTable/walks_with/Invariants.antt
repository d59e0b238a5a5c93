use Rattle.std.proofs.Common.{◌≡◌, ◌++◌, map, drop, filter, flat_map, None, option_copied}
use Rattle.sql_eval.specs.Conditions.{is_kept}
use Rattle.shard_store.specs.Slots.{rows_in}
use Rattle.shard_store.specs.Tables.{begins_with}
use Rattle.shard_store.specs.inner.Chosen.{risen}
use Rattle.shard_store.proofs.table.StoredTable.walks_with.Given as goal

-- of the walks so far, and those of the values that are left, the same is kept as of all
abbrev pub invariant-loop-value : goal.invariant-loop-value
invariant-loop-value l =
    filter (is_kept (option_copied l.fn.condition))
    (flat_map (λ rows. rows) l.walks.items ++ flat_map (λ v. filter (begins_with l.fn.self.ordinals v) (rows_in l.fn.self.slots)) (risen (option_copied l.last) (map (λ v. v.now) (drop l.value-index l.sorted))))
    ≡ filter (is_kept (option_copied l.fn.condition)) (flat_map (λ v. filter (begins_with l.fn.self.ordinals v) (rows_in l.fn.self.slots)) (risen None (map (λ v. v.now) l.fn.sorted)))
