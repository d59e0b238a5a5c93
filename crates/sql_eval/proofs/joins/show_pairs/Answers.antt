use Rattle.std.proofs.Common.{ℕ, List, filter, subst}
use Rattle.std.specs.Prelude.{IfOk}
use Rattle.sql_tree.specs.declared.Key.{Key}
use Rattle.sql_eval.specs.Conditions.{is_kept}
use Rattle.sql_eval.specs.Grouping.{IsSortedSlice}
use Rattle.sql_eval.proofs.joins.show_pairs.Goals as goal

pub returns : goal.returns
returns g c =
    let q = c.args.query.now in
    record {
      ok = subst (λ (keys : List (Key ℕ)). IfOk c.shown_pairs.result (IsSortedSlice keys q.limit c.args.ordinals (filter (is_kept q.filter) (g.S.PairSource.to_come c.args.pairs))))
          c.as_slice.ensures c.shown_pairs.ensures.ok;
    }
