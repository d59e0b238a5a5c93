use Rattle.connection_workers.proofs.Steps.{takes_keep, learns}
use Rattle.connection_workers.proofs.queue.take.Goals as goal

pub pop_as-requires-clause-rule : goal.pop_as-requires-clause-rule
pop_as-requires-clause-rule g c = (takes_keep _ _ c.requires.takes, learns _ _)
