use Rattle.shard_run.specs.Runs.{mode}
use Rattle.reshard_cutover.proofs.Modes.{not_serving}
use Rattle.reshard_cutover.proofs.steps.serves.Goals as goal

pub returns-in_default-clause-no : goal.returns-in_default-clause-no
returns-in_default-clause-no g c e is =
    not_serving (mode g.W.World.opening c.args.state.now.seen c.args.state.now.shard.slot) c.mode.result c.mode.ensures c.in_default.not-Serving is
