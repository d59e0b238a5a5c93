use Rattle.std.proofs.Common.{rules}
use Rattle.operators.proofs.OrderLemmas.{sorted_by_keys}
use Rattle.operators.proofs.sorting.sort.Goals as goal

pub returns-clause-sorted : goal.returns-clause-sorted
returns-clause-sorted c = sorted_by_keys c.args.keys.now _ c.in_ok-sort_by.ensures.sorted (λ a r q k. search rules)
