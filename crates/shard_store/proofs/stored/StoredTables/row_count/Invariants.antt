use Rattle.std.proofs.Common.{◌≡◌, length, take}
use Rattle.std.specs.Prelude.{sum_by}
use Rattle.shard_store.proofs.stored.StoredTables.row_count.Given as goal

abbrev pub invariant-loop-table : goal.invariant-loop-table
invariant-loop-table l = l.count ≡ sum_by length (take l.table-index l.fn.self.rows)
