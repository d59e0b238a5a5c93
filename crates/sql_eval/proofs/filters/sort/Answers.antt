use Rattle.std.proofs.Common.{rules}
use Rattle.aggregate.proofs.OrderLemmas.{value_cmp-total}
use Rattle.vt_value.specs.Values.{value_cmp}
use Rattle.sql_eval.proofs.Lent.{sorted_by_lent}
use Rattle.sql_eval.proofs.filters.sort.Goals as goal

pub returns-clause-sorted : goal.returns-clause-sorted
returns-clause-sorted c = sorted_by_lent value_cmp value_cmp-total _ c.in_ok-sort_by.ensures.sorted (λ a r q k. search rules)
