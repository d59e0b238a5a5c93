use Rattle.vtgate_serve.proofs.Keeping.{none_of}
use Rattle.test_connections.proofs.sessions.converse.Goals as goal

pub feed-requires-clause-tx : goal.feed-requires-clause-tx
feed-requires-clause-tx g c κs within = none_of g.W.World.opening c.args.pass.now c.in_ok-core.core.tx c.in_ok-core.ensures
