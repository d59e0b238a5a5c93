use Rattle.std.proofs.Common.{rules}
use Rattle.sql_eval.specs.KeyOrder.{key_cmp}
use Rattle.sql_eval.proofs.Lent.{sorted_by_lent}
use Rattle.sql_eval.proofs.Twins.{key_cmp-total}
use Rattle.sql_eval.proofs.duplicates.sort.Goals as goal

pub returns-clause-sorted : goal.returns-clause-sorted
returns-clause-sorted c = sorted_by_lent (key_cmp c.args.table.now) (key_cmp-total c.args.table.now) _ c.in_ok-sort_by.ensures.sorted (λ a r q k. search rules)
