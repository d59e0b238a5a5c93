use Rattle.std.proofs.Common.{◌∙◌, arith}
use Rattle.shard_store.specs.Stores.{RowsView}
use Rattle.shard_store.proofs.Tabled.{same_set, as_many}
use Rattle.shard_store.proofs.stored.sweep_tables.Goals as goal

pub loop-ordinal-preserved : goal.loop-ordinal-preserved
loop-ordinal-preserved c = record {
  rows = same_set (λ (t : RowsView). t.rows) c.loop-ordinal.tables.items c.loop-ordinal.ordinal c.index_mut.result.now c.sweep.new.self c.index_mut.ensures.value c.sweep.ensures.rows ∙ c.loop-ordinal.invariant.rows;
  ordinals = same_set (λ (t : RowsView). t.ordinals) c.loop-ordinal.tables.items c.loop-ordinal.ordinal c.index_mut.result.now c.sweep.new.self c.index_mut.ensures.value c.sweep.ensures.ordinals ∙ c.loop-ordinal.invariant.ordinals;
}

pub index_mut-requires : goal.index_mut-requires
index_mut-requires c =
    let many = as_many (λ (t : RowsView). t.rows) c.loop-ordinal.tables.items c.args.tables.now.items c.loop-ordinal.invariant.rows in
    omega (arith, many, c.loop-ordinal-test.true, c.len-ordinal-end.ensures)
