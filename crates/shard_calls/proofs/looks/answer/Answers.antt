use Rattle.shard_calls.proofs.Looking.{finished}
use Rattle.shard_calls.proofs.looks.answer.Goals as goal

pub returns-in-Ok : goal.returns-in-Ok
returns-in-Ok c = finished c.args.query.now c.args.begun c.in-Ok.begun c.in-Ok.is c.finish.result c.finish.ensures.read
