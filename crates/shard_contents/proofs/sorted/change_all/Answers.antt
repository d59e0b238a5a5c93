use Rattle.std.proofs.Common.{◌+◌, take, sym, subst, ◌∙◌, IsPermutation}
use Rattle.vschema.specs.Database.{rows_of, all_applied}
use Rattle.shard_store.specs.Stores.{RowsView}
use Rattle.shard_contents.proofs.Earlier.{more_here, more_other, changes_done}
use Rattle.shard_contents.proofs.sorted.change_all.Goals as goal
use Rattle.shard_contents.proofs.sorted.change_all.Goals.{then-table+in_ok-change, else-table}

pub loop-done-preserved : goal.loop-done-preserved
loop-done-preserved c db there was = elim c.if-table.branch [
  | then-table+in_ok-change w ↦
      subst (λ (t : RowsView). IsPermutation t.rows (rows_of (all_applied (take (c.loop-done.done-index + 1) c.args.changes.now) db) c.args.table)) (sym w.rows-is)
      (more_here c.args.changes.now c.loop-done.done-index c.done-item.result c.args.table c.loop-done-test.true c.done-item.is db c.loop-done.rows.rows w.change.new.rows.rows
      there (sym c.table.ensures ∙ w.if-table.true) w.in_ok-change.ensures.ok (c.loop-done.invariant db there was))
  | else-table w ↦
      subst (λ (t : RowsView). IsPermutation t.rows (rows_of (all_applied (take (c.loop-done.done-index + 1) c.args.changes.now) db) c.args.table)) (sym w.rows-is)
      (more_other c.args.changes.now c.loop-done.done-index c.done-item.result c.args.table c.loop-done-test.true c.done-item.is db c.loop-done.rows.rows
      there (λ same. w.if-table.false (c.table.ensures ∙ same)) (c.loop-done.invariant db there was))
]

pub returns : goal.returns
returns c =
    record { ok = (λ db there was. changes_done c.args.changes.now c.loop-done.done-index db c.args.table c.loop-done.rows.rows c.loop-done-test.false (c.loop-done.invariant db there was)) }
