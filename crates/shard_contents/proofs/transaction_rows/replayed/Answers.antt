use Rattle.std.proofs.Common.{◌∙◌, ap, filter, sym}
use Rattle.std.proofs.lemmas.Bool.{eq-eqb, ne_eqb}
use Rattle.vschema.specs.Database.{changed_table}
use Rattle.shard_store.specs.Stores.{ChangedView}
use Rattle.shard_contents.specs.inner.Stores.{is_selected}
use Rattle.shard_contents.proofs.OneTable.{next_here, next_other}
use Rattle.shard_contents.proofs.Wanted.{after_same}
use Rattle.shard_contents.proofs.transaction_rows.replayed.Goals as goal
use Rattle.shard_contents.proofs.transaction_rows.replayed.Goals.{then-changed_table-ordinal+in_ok-change_wanted, else-changed_table-ordinal}

pub loop-change-preserved : goal.loop-change-preserved
loop-change-preserved c =
    let p = is_selected c.args.wanted in
    elim c.if-changed_table-ordinal.branch [
      | then-changed_table-ordinal+in_ok-change_wanted w ↦
          ap (λ (t : ChangedView). filter p t.rows) w.overlaid-is ∙ w.in_ok-change_wanted.ensures.ok
          ∙ after_same p c.change-item.result _ _ c.loop-change.invariant
          ∙ ap (filter p) (sym (next_here c.args.changes.now c.loop-change.change-index c.change-item.result c.args.store.now.rows c.args.ordinal c.requires c.loop-change-test.true
          c.change-item.is (eq-eqb (changed_table c.change-item.result) c.args.ordinal (sym c.changed_table.ensures ∙ w.if-changed_table-ordinal.true))))
      | else-changed_table-ordinal w ↦
          ap (λ (t : ChangedView). filter p t.rows) w.overlaid-is ∙ c.loop-change.invariant
          ∙ ap (filter p) (sym (next_other c.args.changes.now c.loop-change.change-index c.change-item.result c.args.store.now.rows c.args.ordinal c.requires c.loop-change-test.true
          c.change-item.is (ne_eqb (changed_table c.change-item.result) c.args.ordinal (λ same. w.if-changed_table-ordinal.false (c.changed_table.ensures ∙ same)))))
    ]
