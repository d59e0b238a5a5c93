use Rattle.std.proofs.Common.{ℕ, List, map, ap, subst, sym, ◌∙◌}
use Rattle.std.specs.Prelude.{IsSorted, IsPermutation, filter}
use Rattle.std.proofs.lemmas.Result.{IfOk-weaker}
use Rattle.sql_tree.specs.declared.Key.{Key}
use Rattle.aggregate.specs.Orders.{row_cmp}
use Rattle.aggregate.specs.Slices.{sliced, columns_of}
use Rattle.sql_eval.specs.Conditions.{is_kept}
use Rattle.sql_eval.proofs.FrontRows.{sliced_front}
use Rattle.sql_eval.proofs.joins.show_first_pairs.Goals as goal

pub returns : goal.returns
returns g c =
    let front = c.in_ok-rows.ensures.ok in
    let limit = c.args.query.now.limit in
    let ordinals = c.args.ordinals in
    record {
      ok = IfOk-weaker c.collect.result _ _
          (λ list is. (
            front.0,
            front.1,
            subst (λ (keys : List (Key ℕ)). IsSorted (row_cmp keys) front.0) c.as_slice-keys.ensures front.2,
            is ∙ c.new-shown.ensures.rows ∙ ap (map (columns_of ordinals)) (c.new.ensures.rows ∙ ap (sliced limit) (c.from_vec.ensures ∙ front.3) ∙ sliced_front limit c.args.most front.0 c.requires),
          ))
          c.collect.ensures.ok;
    }
