use Rattle.std.proofs.Common.{◌<◌, ◌∙◌, ap, map, length, arith}
use Rattle.shard_store.specs.Stores.{RowsView}
use Rattle.shard_store.proofs.Tabled.{same_set, as_many, made_next}
use Rattle.shard_store.proofs.stored.snapshots.Goals as goal

pub returns-in_err-snapshot-clause-rows : goal.returns-in_err-snapshot-clause-rows
returns-in_err-snapshot-clause-rows c = same_set (λ (t : RowsView). t.rows) c.loop-ordinal.tables.items c.loop-ordinal.ordinal c.index_mut.result.now c.snapshot.new.self c.index_mut.ensures.value c.snapshot.ensures.rows ∙ c.loop-ordinal.invariant.rows

pub returns-in_err-snapshot-clause-ordinals : goal.returns-in_err-snapshot-clause-ordinals
returns-in_err-snapshot-clause-ordinals c = same_set (λ (t : RowsView). t.ordinals) c.loop-ordinal.tables.items c.loop-ordinal.ordinal c.index_mut.result.now c.snapshot.new.self c.index_mut.ensures.value c.snapshot.ensures.ordinals ∙ c.loop-ordinal.invariant.ordinals

pub returns-in_err-push-clause-rows : goal.returns-in_err-push-clause-rows
returns-in_err-push-clause-rows c = same_set (λ (t : RowsView). t.rows) c.loop-ordinal.tables.items c.loop-ordinal.ordinal c.index_mut.result.now c.snapshot.new.self c.index_mut.ensures.value c.snapshot.ensures.rows ∙ c.loop-ordinal.invariant.rows

pub returns-in_err-push-clause-ordinals : goal.returns-in_err-push-clause-ordinals
returns-in_err-push-clause-ordinals c = same_set (λ (t : RowsView). t.ordinals) c.loop-ordinal.tables.items c.loop-ordinal.ordinal c.index_mut.result.now c.snapshot.new.self c.index_mut.ensures.value c.snapshot.ensures.ordinals ∙ c.loop-ordinal.invariant.ordinals

pub loop-ordinal-preserved : goal.loop-ordinal-preserved
loop-ordinal-preserved c =
    let many = as_many (λ (t : RowsView). t.rows) c.loop-ordinal.tables.items c.args.tables.now.items c.loop-ordinal.invariant.rows in
    let within : c.loop-ordinal.ordinal < length c.loop-ordinal.tables.items = omega (arith, many, c.loop-ordinal-test.true, c.len-ordinal-end.ensures) in
    record {
      rows = same_set (λ (t : RowsView). t.rows) c.loop-ordinal.tables.items c.loop-ordinal.ordinal c.index_mut.result.now c.snapshot.new.self c.index_mut.ensures.value c.snapshot.ensures.rows ∙ c.loop-ordinal.invariant.rows;
      ordinals = same_set (λ (t : RowsView). t.ordinals) c.loop-ordinal.tables.items c.loop-ordinal.ordinal c.index_mut.result.now c.snapshot.new.self c.index_mut.ensures.value c.snapshot.ensures.ordinals ∙ c.loop-ordinal.invariant.ordinals;
      made = ap (map (λ (t : RowsView). t.rows)) c.in_ok-push.ensures.items
          ∙ made_next (λ (t : RowsView). t.rows) c.args.tables.now.items c.loop-ordinal.tables.items c.loop-ordinal.list.items c.index_mut.result.now c.in_ok-snapshot.field-0 c.loop-ordinal.ordinal within c.index_mut.ensures.value c.loop-ordinal.invariant.rows c.loop-ordinal.invariant.made c.in_ok-snapshot.ensures.snapshot;
      columns = ap (map (λ (t : RowsView). t.ordinals)) c.in_ok-push.ensures.items
          ∙ made_next (λ (t : RowsView). t.ordinals) c.args.tables.now.items c.loop-ordinal.tables.items c.loop-ordinal.list.items c.index_mut.result.now c.in_ok-snapshot.field-0 c.loop-ordinal.ordinal within c.index_mut.ensures.value c.loop-ordinal.invariant.ordinals c.loop-ordinal.invariant.columns c.in_ok-snapshot.ensures.columns;
    }
