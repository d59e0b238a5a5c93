use Rattle.std.proofs.Common.{option_copied, ◌∙◌, Bor, List, None, map, filter, flat_map, subst}
use Rattle.sql_eval.specs.Conditions.{is_kept}
use Rattle.vt_value.specs.declared.value.Value.{Value}
use Rattle.shard_store.specs.Slots.{Slot, rows_in}
use Rattle.shard_store.specs.Tables.{begins_with}
use Rattle.shard_store.specs.inner.Chosen.{risen}
use Rattle.shard_store.proofs.Keyed.{Keyed, all_begun}
use Rattle.shard_store.proofs.table.StoredTable.kept_among.Goals as goal

pub returns : goal.returns
returns c =
    let k = is_kept (option_copied c.args.condition) in
    let t = c.args.self.now in
    let keyed : Keyed t.ordinals t.slots = subst (λ (l : List Slot). Keyed t.ordinals l) c.slots-slots.ensures.slots c.slots-slots.ensures.keyed in
    record {
      ok = all_begun k t.ordinals (map (λ (v : Bor Value). v.now) c.in_ok-sorted.sorted.items) c.args.values.now t.slots (flat_map (λ rows. rows) c.in_ok-walks.walks.items)
          c.requires keyed c.slots-slots.ensures.ascend c.in_ok-sorted.ensures.sorted c.in_ok-sorted.ensures.same
          (c.in_ok-walks.ensures.ok
          ∙ (λ i. filter k (flat_map (λ v. filter (begins_with t.ordinals v) (rows_in t.slots)) (risen None (map (λ (v : Bor Value). v.now) (c.as_slice.ensures.value i))))));
    }
