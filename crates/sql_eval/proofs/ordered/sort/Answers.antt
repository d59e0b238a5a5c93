use Rattle.std.proofs.Common.{rules}
use Rattle.sql_eval.proofs.LentRows.{sorted_lent}
use Rattle.sql_eval.proofs.ordered.sort.Goals as goal

pub returns-clause-sorted : goal.returns-clause-sorted
returns-clause-sorted c = sorted_lent c.args.keys.now _ c.in_ok-sort_by.ensures.sorted (λ a r q k. search rules)
