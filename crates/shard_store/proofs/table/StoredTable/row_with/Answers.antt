use Rattle.std.proofs.Common.{◌∙◌, ap, filter}
use Rattle.shard_store.specs.declared.key.RowKey.{RowKey}
use Rattle.shard_store.specs.Slots.{rows_in}
use Rattle.shard_store.specs.Tables.{has_key}
use Rattle.shard_store.proofs.LoneKeys.{begun_alone}
use Rattle.shard_store.proofs.table.StoredTable.row_with.Goals as goal

pub returns : goal.returns
returns c = record {
  ok = (let ordinals = c.args.self.now.ordinals in
      let rows = rows_in c.args.self.now.slots in
      c.get.ensures
      ∙ ap (λ (k : RowKey). filter (has_key ordinals k.values) rows) c.in_ok-key.ensures.ok
      ∙ begun_alone ordinals c.args.value.now c.requires rows);
}
