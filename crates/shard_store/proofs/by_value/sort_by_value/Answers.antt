use Rattle.std.proofs.Common.{rules}
use Rattle.shard_store.proofs.RisingRows.{sorted_rows}
use Rattle.shard_store.proofs.by_value.sort_by_value.Goals as goal

pub returns-clause-sorted : goal.returns-clause-sorted
returns-clause-sorted c = sorted_rows c.args.column _ c.in_ok-sort_by.ensures.sorted (λ a r q k. search rules)
