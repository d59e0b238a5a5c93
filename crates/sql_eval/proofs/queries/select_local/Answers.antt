use Rattle.std.proofs.Common.{filter, refl, sym, ap, subst}
use Rattle.sql_eval.specs.Groups.{CanBeSummed}
use Rattle.sql_eval.specs.Conditions.{is_kept}
use Rattle.sql_eval.proofs.Sums.{filter_summed}
use Rattle.sql_eval.proofs.queries.select_local.Goals as goal

pub select_from-requires : goal.select_from-requires
select_from-requires c κs = (
  (refl, tt),
  λ aggregated. subst CanBeSummed (ap (filter (is_kept c.args.query.now.filter)) (sym c.new.ensures))
      (filter_summed (is_kept c.args.query.now.filter) c.args.rows.now (c.requires.summed aggregated)),
)
