use Rattle.std.proofs.Common.{◌≡◌, ◌-◌, vec_len, drop}
use Rattle.std.specs.Prelude.{flat_map}
use Rattle.shard_store.proofs.source.RowsAmongRowSource.next_row.Given as goal

-- the walks that are passed had no rows left
abbrev pub invariant-loop-self : goal.invariant-loop-self
invariant-loop-self l =
    flat_map (λ rows. rows) (drop l.self-inside.current l.self-inside.walks.items) ≡ l.fn.self

abbrev pub decreases-loop-self : goal.decreases-loop-self
decreases-loop-self l = vec_len l.self-inside.walks - l.self-inside.current
