use Rattle.shard_run.specs.Runs.{mode}
use Rattle.shard.proofs.Found.{shown}
use Rattle.shard.proofs.state.ShardState.is_found_at.Goals as goal

pub returns-in_default-clause-past : goal.returns-in_default-clause-past
returns-in_default-clause-past g c found =
    shown (mode g.W.World.opening c.args.self.now.seen c.args.self.now.shard.slot) c.mode.result c.mode.ensures c.in_default.not-Following
