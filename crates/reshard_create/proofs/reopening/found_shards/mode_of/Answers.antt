use Rattle.reshard_create.proofs.reopening.Founds.{gone_is_retired}
use Rattle.reshard_create.proofs.reopening.found_shards.mode_of.Goals as goal

pub returns-in-Dropped : goal.returns-in-Dropped
returns-in-Dropped g c =
    gone_is_retired g.W.World.opening c.args.state.now.seen c.args.state.now.shard.slot c.mode.result c.in-Dropped.is c.mode.ensures
