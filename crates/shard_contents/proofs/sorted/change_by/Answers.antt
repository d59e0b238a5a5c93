use Rattle.std.proofs.Common.{◌<◌, ℕ, List, sym, ap, subst, ◌∙◌, take, IsPermutation}
use Rattle.vschema.specs.declared.changes.RowChange.{RowChange}
use Rattle.vschema.specs.Database.{Database, rows_of, all_applied}
use Rattle.shard_law.proofs.Databases.{length-all_applied}
use Rattle.shard_contents.specs.inner.Earlier.{changes_by}
use Rattle.shard_contents.proofs.Earlier.{entry_next, entries_done}
use Rattle.shard_contents.proofs.sorted.change_by.Goals as goal

pub loop-entry-preserved : goal.loop-entry-preserved
loop-entry-preserved c db there was =
    let so_far : Database = all_applied (changes_by (take c.loop-entry.entry-index c.args.entries.now)) db in
    subst (λ (d : Database). IsPermutation c.change_all.new.rows.rows (rows_of d c.args.table))
    (ap (λ (l : List RowChange). all_applied l so_far) c.changes.ensures
    ∙ sym (entry_next c.args.entries.now c.loop-entry.entry-index c.entry-item.result db c.loop-entry-test.true c.entry-item.is))
    (c.in_ok-change_all.ensures.ok so_far
    (subst (λ (k : ℕ). c.args.table < k) (sym (length-all_applied (changes_by (take c.loop-entry.entry-index c.args.entries.now)) db)) there)
    (c.loop-entry.invariant db there was))

pub returns : goal.returns
returns c =
    record { ok = (λ db there was. entries_done c.args.entries.now c.loop-entry.entry-index db c.args.table c.loop-entry.rows.rows c.loop-entry-test.false (c.loop-entry.invariant db there was)) }
