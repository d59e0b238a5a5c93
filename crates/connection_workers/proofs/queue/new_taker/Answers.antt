use Rattle.connection_workers.proofs.Steps.{forks_keep}
use Rattle.connection_workers.proofs.queue.new_taker.Goals as goal

pub another-requires-clause-rule : goal.another-requires-clause-rule
another-requires-clause-rule g c = forks_keep _ _ c.requires.puts
