use Rattle.std.proofs.Common.{◌∙◌, ◌∷◌, [], refl, sym, subst, filter}
use Rattle.std.proofs.lemmas.Result.{IfOk-weaker}
use Rattle.sql_eval.specs.Conditions.{is_kept}
use Rattle.sql_eval.specs.Grouping.{group_columns, group_order, IsSortedSlice}
use Rattle.sql_eval.specs.inner.Parts.{counted_row}
use Rattle.sql_eval.proofs.AnswerLemmas.{group_answer}
use Rattle.sql_eval.proofs.Counted.{count_groups}
use Rattle.sql_eval.proofs.queries.select_count.Goals as goal

pub returns : goal.returns
returns c =
    let q = c.args.query.now in
    record {
      ok = IfOk-weaker c.show_groups.result _ _
          (λ list is rows count.
          (let groups = c.in_ok-groups.ensures.ok ∙ (λ i. counted_row (c.as_slice.ensures i) (sym count i) ∷ []) ∙ count_groups q rows c.requires in
          group_answer q rows (filter (is_kept q.filter) rows) list c.requires.2 refl
          (subst (λ gs. IsSortedSlice (group_order q) q.limit (group_columns q) gs list) groups is)))
          c.show_groups.ensures.ok;
    }
