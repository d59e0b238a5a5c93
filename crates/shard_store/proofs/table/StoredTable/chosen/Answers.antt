use Rattle.std.proofs.Common.{◌≡◌, ◌∙◌, ℕ, Option, true, subst, filter}
use Rattle.std.specs.Prelude.{slice_index}
use Rattle.vt_value.specs.Values.{Row, value_at}
use Rattle.sql_tree.specs.declared.Condition.{Condition}
use Rattle.sql_eval.specs.Conditions.{is_kept}
use Rattle.key_intervals.specs.Listed.{is_among, fits}
use Rattle.key_intervals.proofs.KeyLemmas.{some_of}
use Rattle.key_intervals.specs.declared.equalities.Fixed.{Fixed}
use Rattle.shard_store.specs.Slots.{rows_in}
use Rattle.shard_store.proofs.KeptRows.{filter_weaker}
use Rattle.shard_store.proofs.table.StoredTable.chosen.Goals as goal

pub returns-in_ok-rows-in-Among : goal.returns-in_ok-rows-in-Among
returns-in_ok-rows-in-Among c =
    let t = c.args.self.now in
    let column = slice_index t.ordinals 0 in
    let values = c.in-Among.values.now in
    let k = is_kept c.args.condition.now in
    let listed : (row : Row) → k row ≡ true → is_among values (value_at row column) ≡ true =
    subst (λ (f : Fixed). (row : Row) → k row ≡ true → fits f (value_at row column) ≡ true) c.in-Among.is (some_of _ c.in-Some.is c.first_values.ensures.values) in
    record {
      ok = subst (λ (o : Option (Condition ℕ)). filter (is_kept o) c.in_ok-rows-in-Among.rows ≡ filter (is_kept o) (filter (λ row. is_among values (value_at row column)) (rows_in t.slots)))
          c.as_ref.ensures.value c.in_ok-rows-in-Among.ensures.ok
          ∙ filter_weaker k (λ row. is_among values (value_at row column)) listed (rows_in t.slots);
    }
