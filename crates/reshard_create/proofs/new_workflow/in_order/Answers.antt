use Rattle.std.proofs.Common.{rules}
use Rattle.reshard_create.proofs.Rising.{sorted_by_begins}
use Rattle.reshard_create.proofs.new_workflow.in_order.Goals as goal

pub returns-clause-rise : goal.returns-clause-rise
returns-clause-rise c = sorted_by_begins (λ r. r) _ c.sort_unstable_by.ensures.sorted (λ a r q k. search rules)
