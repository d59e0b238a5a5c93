use Rattle.std.proofs.Common.{◌≡◌}
use Rattle.shard_run.specs.declared.ShardRecord.{ShardRecord}
use Rattle.reshard_create.proofs.split.Lists.{not_there, whole}
use Rattle.reshard_create.proofs.reopening.Names.{all_next}
use Rattle.reshard_create.proofs.reopening.named_targets.is_among.Goals as goal

pub loop-other-preserved : goal.loop-other-preserved
loop-other-preserved c =
    all_next (λ (s : ShardRecord). s ≡ c.args.shard.now → ⊥) c.args.shards.now c.loop-other.other-index c.other-item.result c.loop-other-test.true c.other-item.is
    c.loop-other.invariant (c.is_same.ensures.no c.if-is_same.false)

pub returns-clause-no : goal.returns-clause-no
returns-clause-no c e =
    let s = c.args.shard.now in
    not_there c.args.shards.now s (whole (λ (x : ShardRecord). x ≡ s → ⊥) c.loop-other.other-index c.args.shards.now c.loop-other-test.false c.loop-other.invariant)
