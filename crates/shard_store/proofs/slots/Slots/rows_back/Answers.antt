use Rattle.std.proofs.Common.{◌∙◌, ap, sym, None, reverse}
use Rattle.shard_store.specs.Slots.{rows_in}
use Rattle.shard_store.proofs.Prefix.{none_crossed}
use Rattle.shard_store.proofs.BackWalks.{back_walked}
use Rattle.shard_store.proofs.slots.Slots.rows_back.Goals as goal

pub returns-then-not-is_before : goal.returns-then-not-is_before
returns-then-not-is_before c =
    sym (ap (λ l. reverse (rows_in l)) (none_crossed None c.args.below c.args.from (sym c.is_before.ensures ∙ c.if-not-is_before.true) c.args.self.now.slots))

pub returns : goal.returns
returns c = back_walked c.args.from c.args.below c.args.self.now.slots c.slots_back-slots.result c.slots_back-slots.ensures c.len-slots.ensures.ascend
