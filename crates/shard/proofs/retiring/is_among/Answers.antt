use Rattle.std.proofs.Common.{sym, subst}
use Rattle.std.specs.Prelude.{Contains}
use Rattle.shard.proofs.retiring.is_among.Goals as goal

pub returns-then-is_same : goal.returns-then-is_same
returns-then-is_same c e =
    subst (Contains c.args.shards.now) (c.is_same.ensures c.if-is_same.true) (c.loop-other.other-index, c.loop-other-test.true, sym c.other-item.is)
