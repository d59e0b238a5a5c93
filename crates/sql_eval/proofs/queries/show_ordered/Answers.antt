use Rattle.std.proofs.Common.{ℕ, List, map, ap, subst, ◌∙◌}
use Rattle.std.specs.Prelude.{IsSorted, filter}
use Rattle.std.proofs.lemmas.Result.{IfOk-weaker}
use Rattle.sql_tree.specs.declared.Item.{Item}
use Rattle.sql_tree.specs.declared.Key.{Key}
use Rattle.aggregate.specs.Orders.{row_cmp}
use Rattle.aggregate.specs.Slices.{sliced, columns_of}
use Rattle.sql_eval.specs.Conditions.{is_kept}
use Rattle.sql_eval.specs.Grouping.{shown_ordinal}
use Rattle.sql_eval.proofs.LentRows.{no_condition}
use Rattle.sql_eval.proofs.queries.show_ordered.Goals as goal

pub returns : goal.returns
returns g c =
    let rows = c.in_ok-rows.rows in
    record {
      ok = IfOk-weaker c.shown.result _ _
          (λ list is. (
            rows,
            c.in_ok-rows.ensures.permutation,
            subst (λ (keys : List (Key ℕ)). IsSorted (row_cmp keys) rows) c.as_slice.ensures c.in_ok-rows.ensures.sorted,
            is ∙ ap (λ (l : List (Item ℕ)). map (columns_of (map shown_ordinal l)) (sliced c.args.query.now.limit (filter (is_kept c.plain-all.result) rows))) c.as_slice-2.ensures
                ∙ ap (λ f. map (columns_of (map shown_ordinal c.args.query.now.items)) (sliced c.args.query.now.limit (filter (is_kept f) rows))) c.plain-all.ensures
                ∙ ap (λ l. map (columns_of (map shown_ordinal c.args.query.now.items)) (sliced c.args.query.now.limit l)) (no_condition rows),
          ))
          c.shown.ensures.ok;
    }
