use Rattle.reshard_cutover.proofs.Modes.{out_of_use}
use Rattle.reshard_cutover.proofs.dropping.is_out_of_use.Goals as goal

pub returns-in-Dropped : goal.returns-in-Dropped
returns-in-Dropped g c t =
    out_of_use g.W.World.opening c.args.state.now.seen c.args.state.now.shard.slot c.mode.result c.mode.ensures c.in-Dropped.is
