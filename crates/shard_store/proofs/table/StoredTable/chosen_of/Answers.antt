use Rattle.std.proofs.Common.{◌≡◌, filter, subst, sym}
use Rattle.std.specs.Prelude.{slice_index}
use Rattle.vt_value.specs.Values.{value_at}
use Rattle.key_intervals.specs.declared.equalities.Fixed.{Fixed}
use Rattle.shard_store.specs.Slots.{rows_in}
use Rattle.key_intervals.specs.Listed.{fits}
use Rattle.shard_store.proofs.table.StoredTable.chosen_of.Goals as goal

pub returns-in_ok-rows-in-One : goal.returns-in_ok-rows-in-One
returns-in_ok-rows-in-One c = record {
  ok = subst (λ (f : Fixed). c.in_ok-rows-in-One.rows ≡ filter (λ row. fits f (value_at row (slice_index c.args.self.now.ordinals 0))) (rows_in c.args.self.now.slots))
      (sym c.in-One.is) c.in_ok-rows-in-One.ensures.ok;
}

pub returns-in_ok-rows-in-Among : goal.returns-in_ok-rows-in-Among
returns-in_ok-rows-in-Among c = record {
  ok = subst (λ (f : Fixed). c.in_ok-rows-in-Among.rows ≡ filter (λ row. fits f (value_at row (slice_index c.args.self.now.ordinals 0))) (rows_in c.args.self.now.slots))
      (sym c.in-Among.is) c.in_ok-rows-in-Among.ensures.ok;
}
