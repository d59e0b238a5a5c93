use Rattle.std.proofs.Common.{◌≡◌, ◌++◌, length}
use Rattle.shard_store.specs.inner.Joined.{rows_lent}
use Rattle.shard_store.proofs.by_value.all_of.Given as goal

abbrev pub invariant-loop-row : goal.invariant-loop-row
invariant-loop-row g l = rows_lent l.list.items ++ g.S.RowSource.to_come l.rows ≡ g.S.RowSource.to_come l.fn.rows

abbrev pub decreases-loop-row : goal.decreases-loop-row
decreases-loop-row g l = length (g.S.RowSource.to_come l.rows)
