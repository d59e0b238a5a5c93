use Rattle.std.proofs.Common.{◌≡◌, ◌++◌, drop}
use Rattle.shard_store.proofs.table_rows.shared.Given as goal

abbrev pub invariant-loop-row : goal.invariant-loop-row
invariant-loop-row l = l.list.items ++ drop l.row-index l.rows ≡ l.rows
