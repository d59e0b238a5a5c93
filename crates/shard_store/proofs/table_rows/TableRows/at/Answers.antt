use Rattle.std.proofs.Common.{◌≡◌, ◌∙◌, ◌++◌, ap, sym, filter, option_to_list, option_copied}
use Rattle.std.proofs.lemmas.List.Elements.{filter-append}
use Rattle.sql_eval.specs.Conditions.{is_kept}
use Rattle.shard_store.specs.Slots.{rows_in}
use Rattle.shard_store.specs.Tables.{begins_with}
use Rattle.shard_store.specs.Stores.{RowsView}
use Rattle.shard_store.proofs.KeptRows.{filter_weaker}
use Rattle.shard_store.proofs.table_rows.TableRows.at.Goals as goal

pub returns : goal.returns
returns c = record {
  ok = (let k = is_kept c.args.condition.now in
      let t = c.self.inside.stored in
      let slotted = option_to_list (option_copied c.in_ok-slotted.slotted) in
      let here : filter k slotted ≡ filter k (rows_in t.slots) =
      ap (filter k) c.in_ok-slotted.ensures.ok
      ∙ filter_weaker k (begins_with t.ordinals c.in-Some.value.now) c.in-Some.ensures.value (rows_in t.slots) in
      let unslotted : c.new.result ≡ c.self.inside.unslotted.items = c.new.ensures ∙ c.as_slice.ensures.value in
      filter-append k slotted c.new.result
      ∙ (λ i. here i ++ filter k (unslotted i))
      ∙ sym (filter-append k (rows_in t.slots) c.self.inside.unslotted.items)
      ∙ ap (λ (v : RowsView). filter k v.rows) c.self.view_is);
}
