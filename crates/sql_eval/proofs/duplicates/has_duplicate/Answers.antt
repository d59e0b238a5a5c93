use Rattle.std.proofs.Common.{◌∙◌, ◌||◌, List, ap, Bor, map}
use Rattle.vt_value.specs.Values.{Row}
use Rattle.sql_eval.specs.KeyOrder.{key_cmp}
use Rattle.sql_eval.specs.inner.Keys.{has_twins, shares_key}
use Rattle.sql_eval.proofs.Lent.{lent}
use Rattle.sql_eval.proofs.Twins.{in_order}
use Rattle.sql_eval.proofs.duplicates.has_duplicate.Goals as goal

pub returns-in-Ok : goal.returns-in-Ok
returns-in-Ok c =
    record {
      ok = (let t = c.args.table.now in
          let list = map (λ (b : Bor Row). b.now) c.in-Ok.sorted.items in
          c.has_duplicate_in_order.ensures
          ∙ ap (λ (l : List (Bor Row)). has_twins t (map (λ (b : Bor Row). b.now) l) || shares_key t (map (λ (b : Bor Row). b.now) l) c.args.rows.now) c.as_slice.ensures.value
          ∙ in_order t c.args.rows.now c.args.new.now list c.in-Ok.ensures.permutation (lent (key_cmp t) c.in-Ok.sorted.items c.in-Ok.ensures.sorted));
    }
