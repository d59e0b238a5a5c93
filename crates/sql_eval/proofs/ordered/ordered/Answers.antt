use Rattle.std.proofs.Common.{filter}
use Rattle.sql_eval.specs.Conditions.{is_kept}
use Rattle.sql_eval.proofs.LentRows.{same_lent}
use Rattle.sql_eval.proofs.ordered.ordered.Goals as goal

pub returns-in-Ok-clause-permutation : goal.returns-in-Ok-clause-permutation
returns-in-Ok-clause-permutation g c =
    same_lent c.in_ok-list.list.items c.sort.new.rows.items (filter (is_kept c.args.condition.now) (g.S.RowSource.to_come c.args.rows)) c.sort.ensures.permutation c.in_ok-list.ensures.ok
