use Rattle.std.proofs.Common.{◌≡◌, ◌++◌, drop}
use Rattle.std.specs.Prelude.{flat_map}
use Rattle.status_page.specs.Table.{shard_row}
use Rattle.status_page.proofs.page_table.put_rows.Given as goal

abbrev pub invariant-loop-shard : goal.invariant-loop-shard
invariant-loop-shard l =
    l.out.items ++ flat_map shard_row (drop l.shard-index l.shards) ≡ l.fn.out.items ++ flat_map shard_row l.shards
