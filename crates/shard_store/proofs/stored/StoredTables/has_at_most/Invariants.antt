use Rattle.std.proofs.Common.{◌≡◌, ◌+◌, length, take}
use Rattle.std.specs.Prelude.{sum_by}
use Rattle.shard_store.proofs.stored.StoredTables.has_at_most.Given as goal

-- so many more rows may come after the tables so far
abbrev pub invariant-loop-table : goal.invariant-loop-table
invariant-loop-table l = sum_by (λ t. length t.rows) (take l.table-index l.table-items) + l.left ≡ l.fn.most
