use Rattle.std.proofs.Common.{◌∙◌, ap, rules}
use Rattle.shard_store.specs.inner.Joined.{rows_lent}
use Rattle.shard_store.proofs.RisingRows.{up_to_point, others_cut}
use Rattle.shard_store.proofs.by_value.up_to_value.Goals as goal

pub returns : goal.returns
returns c =
    ap rows_lent c.split_at.ensures.front
    ∙ others_cut c.args.column c.args.value.now c.args.rows.now c.partition_point-end.result c.requires.at_least
    (up_to_point c.args.column c.args.value.now c.args.rows.now c.partition_point-end.result c.partition_point-end.ensures.partitioned c.requires.sorted
    (λ a r q k. search rules))
