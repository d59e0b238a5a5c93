use Rattle.connection_workers.proofs.Steps.{begins}
use Rattle.connection_workers.proofs.queue.open.Goals as goal

pub ruled-requires-clause-rule : goal.ruled-requires-clause-rule
ruled-requires-clause-rule g c = begins
