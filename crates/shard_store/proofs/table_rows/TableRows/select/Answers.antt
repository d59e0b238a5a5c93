use Rattle.std.proofs.Common.{refl, sym, subst}
use Rattle.sql_eval.specs.Groups.{CanBeSummed}
use Rattle.sql_eval.specs.Conditions.{is_kept}
use Rattle.sql_eval.proofs.Sums.{filter_summed}
use Rattle.shard_store.proofs.table_rows.TableRows.select.Goals as goal

pub select_from-requires : goal.select_from-requires
select_from-requires c κs = (
  (refl, tt),
  λ aggregated. subst CanBeSummed (sym (rw c.in-Some.is at c.in_ok-found.ensures.ok))
      (filter_summed (is_kept c.args.query.now.filter) c.args.self.now.rows (c.requires.summed aggregated)),
)

pub select_from-requires-2 : goal.select_from-requires-2
select_from-requires-2 c κs = (
  (refl, tt),
  λ aggregated. subst CanBeSummed (sym c.in_ok-rows.ensures.ok)
      (filter_summed (is_kept c.args.query.now.filter) c.args.self.now.rows (c.requires.summed aggregated)),
)
