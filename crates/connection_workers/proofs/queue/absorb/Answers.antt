use Rattle.connection_workers.proofs.Steps.{merges_keep, compares, puts_after}
use Rattle.crossbeam_queue.specs.Passes.{view}
use Rattle.connection_workers.proofs.queue.absorb.Goals as goal

pub absorb-requires-clause-rule : goal.absorb-requires-clause-rule
absorb-requires-clause-rule g c = merges_keep _ _ _ _ c.requires.puts c.requires.takes

pub learn_as-requires-clause-rule : goal.learn_as-requires-clause-rule
learn_as-requires-clause-rule g c = compares _ _ (puts_after (view c.args.pass.now) (view c.args.ended) _ c.absorb.ensures.rule c.requires.puts)
