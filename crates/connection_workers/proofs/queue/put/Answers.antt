use Rattle.connection_workers.proofs.Steps.{puts_keep, learns}
use Rattle.connection_workers.proofs.queue.put.Goals as goal

pub push_as-requires-clause-rule : goal.push_as-requires-clause-rule
push_as-requires-clause-rule g c = (puts_keep _ _ _ _ c.requires.puts, learns _ _)
