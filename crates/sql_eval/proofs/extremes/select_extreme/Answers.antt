use Rattle.std.proofs.Common.{◌≡◌, ◌∙◌, ◌∷◌, [], ℕ, List, ap, refl, subst, map, filter, arith}
use Rattle.std.proofs.lemmas.Grind.{common_steps}
use Rattle.std.proofs.lemmas.Result.{IfOk-weaker}
use Rattle.sql_tree.specs.declared.Item.{Item}
use Rattle.aggregate.specs.Aggregates.{values_of}
use Rattle.sql_eval.specs.Conditions.{is_kept}
use Rattle.sql_eval.specs.Grouping.{group_columns, group_order, IsSortedSlice}
use Rattle.sql_eval.specs.inner.Firsts.{first_of}
use Rattle.sql_eval.proofs.AnswerLemmas.{group_answer}
use Rattle.sql_eval.proofs.ExtremeRows.{extreme_groups}
use Rattle.sql_eval.proofs.extremes.select_extreme.Goals as goal

pub returns : goal.returns
returns g c =
    let q = c.args.query.now in
    let k = c.args.key.now in
    let rows = g.S.RowSource.to_come c.args.rows in
    let kept = filter (is_kept q.filter) rows in
    let value = c.in_ok-value.value in
    let found = c.in_ok-value.ensures.ok ∙ ap (λ f. first_of (values_of k.column (filter (is_kept f) rows))) c.in_ok-filter.ensures.ok in
    let pushed : c.push.new.self ≡ c.in_ok-row_of.field-0 ∷ [] = grind (arith, common_steps) in
    let row = c.in_ok-row_of.ensures.ok ∙ ap (λ (items : List (Item ℕ)). map (λ item. value) items) c.as_slice.ensures in
    let groups = pushed ∙ ap (λ r. r ∷ []) row ∙ extreme_groups k kept c.requires.sorted q value c.requires.alone found in
    record {
      ok = IfOk-weaker c.show_groups.result _ _
          (λ list is. group_answer q rows kept list c.requires.alone.1 refl (subst (λ gs. IsSortedSlice (group_order q) q.limit (group_columns q) gs list) groups is))
          c.show_groups.ensures.ok;
    }
