use Rattle.std.proofs.Common.{ℕ, List, map, filter, refl, ap, subst, ◌∙◌}
use Rattle.std.specs.Prelude.{IfOk}
use Rattle.sql_eval.specs.Conditions.{is_kept}
use Rattle.sql_eval.specs.Grouping.{shown_ordinal, IsSortedSlice}
use Rattle.sql_eval.proofs.AnswerLemmas.{answered}
use Rattle.sql_eval.proofs.joins.select_pairs.Goals as goal

pub returns : goal.returns
returns g c =
    record {
      ok = (let q = c.args.query.now in
          let rows = g.S.PairSource.to_come c.args.pairs in
          let ordinals = c.in_ok-ordinals.ensures.ok ∙ ap (map shown_ordinal) c.as_slice.ensures in
          answered q rows (filter (is_kept q.filter) rows) c.sorted_pairs.result c.requires.plain refl
          (subst (λ (ps : List ℕ). IfOk c.sorted_pairs.result (IsSortedSlice q.order_by q.limit ps (filter (is_kept q.filter) rows))) ordinals c.sorted_pairs.ensures.ok));
    }
