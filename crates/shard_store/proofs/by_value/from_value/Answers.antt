use Rattle.std.proofs.Common.{◌≡◌, ◌∙◌, List, Bor, ap, filter, false, subst, sym, rules}
use Rattle.std.specs.List.{AllByRecursion}
use Rattle.vt_value.specs.Values.{Row}
use Rattle.shard_store.specs.inner.Joined.{has_value, Rises, rows_lent}
use Rattle.shard_store.proofs.RisingRows.{is_below_value, below_point, rises_after, none_below, others_dropped}
use Rattle.shard_store.proofs.by_value.from_value.Goals as goal

pub returns-clause-sorted : goal.returns-clause-sorted
returns-clause-sorted c =
    subst (Rises c.args.column) (sym c.split_at.ensures.back) (rises_after c.args.column c.partition_point-start.result c.args.rows.now c.requires)

pub returns-clause-at_least : goal.returns-clause-at_least
returns-clause-at_least c =
    subst (AllByRecursion (λ (r : Bor Row). is_below_value c.args.column c.args.value.now r ≡ false)) (sym c.split_at.ensures.back)
    (none_below c.args.column c.args.value.now c.args.rows.now c.partition_point-start.result
    (below_point c.args.column c.args.value.now c.args.rows.now c.partition_point-start.result c.partition_point-start.ensures.partitioned c.requires
    (λ a r q k. search rules)).1)

pub returns-clause-same : goal.returns-clause-same
returns-clause-same c =
    ap (λ (l : List (Bor Row)). filter (has_value c.args.column c.args.value.now) (rows_lent l)) c.split_at.ensures.back
    ∙ others_dropped c.args.column c.args.value.now c.args.rows.now c.partition_point-start.result
    (below_point c.args.column c.args.value.now c.args.rows.now c.partition_point-start.result c.partition_point-start.ensures.partitioned c.requires
    (λ a r q k. search rules)).0
