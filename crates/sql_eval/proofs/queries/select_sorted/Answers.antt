use Rattle.std.proofs.Common.{ℕ, List, map, ap, ◌∙◌}
use Rattle.std.specs.Prelude.{filter}
use Rattle.std.proofs.lemmas.List.Sorted.{IsPermutation-refl}
use Rattle.std.proofs.lemmas.Result.{IfOk-weaker}
use Rattle.sql_tree.specs.declared.Item.{Item}
use Rattle.aggregate.specs.Slices.{sliced, columns_of}
use Rattle.sql_eval.specs.Conditions.{is_kept}
use Rattle.sql_eval.specs.Grouping.{shown_ordinal}
use Rattle.sql_eval.proofs.queries.select_sorted.Goals as goal

pub returns : goal.returns
returns g c =
    let q = c.args.query.now in
    let rows = g.S.RowSource.to_come c.args.rows in
    record {
      ok = IfOk-weaker c.shown.result _ _
          (λ list is. (
            filter (is_kept q.filter) rows,
            IsPermutation-refl (filter (is_kept q.filter) rows),
            c.requires,
            is ∙ ap (λ (l : List (Item ℕ)). map (columns_of (map shown_ordinal l)) (sliced q.limit (filter (is_kept c.in_ok-filter.filter) rows))) c.as_slice.ensures
                ∙ ap (λ f. map (columns_of (map shown_ordinal q.items)) (sliced q.limit (filter (is_kept f) rows))) c.in_ok-filter.ensures.ok,
          ))
          c.shown.ensures.ok;
    }
