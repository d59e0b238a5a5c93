use Rattle.std.proofs.Common.{◌≡◌, true, false, sym, subst}
use Rattle.std.specs.List.{list_any}
use Rattle.std.specs.Ordering.{is_lt}
use Rattle.std.specs.Cmp.Lexicographic.{slice_cmp}
use Rattle.vt_value.specs.Values.{value_cmp, same_row}
use Rattle.shard_store.specs.Tables.{key_at}
use Rattle.shard_store.specs.declared.removed_rows.LentRow.{LentRow}
use Rattle.shard_store.specs.inner.Overlays.{ColumnKeys}
use Rattle.shard_store.proofs.Gaps.{gap_at_end, gap_before}
use Rattle.shard_store.proofs.removed_rows.RemovedRows.first_past.Goals as goal

pub returns-in-Some : goal.returns-in-Some
returns-in-Some c = λ key up below.
    let lent : LentRow = record { columns = c.self.inside.columns; row = c.args.row } in
    subst (λ (v : ColumnKeys). list_any (same_row key) v.keys ≡ false) c.self.view_is
    (gap_before c.self.inside.rows lent c.range-trailing.result (c.range-trailing.ensures.in_range tt) key
    (subst (λ (v : ColumnKeys). is_lt (slice_cmp value_cmp (key_at v.columns c.args.row.now) key) ≡ true) (sym c.self.view_is) up)
    _ _ c.in-Some.ensures.steps below)

pub returns-in-None : goal.returns-in-None
returns-in-None c = λ key up below.
    let lent : LentRow = record { columns = c.self.inside.columns; row = c.args.row } in
    subst (λ (v : ColumnKeys). list_any (same_row key) v.keys ≡ false) c.self.view_is
    (gap_at_end c.self.inside.rows lent c.range-trailing.result (c.range-trailing.ensures.in_range tt) key
    (subst (λ (v : ColumnKeys). is_lt (slice_cmp value_cmp (key_at v.columns c.args.row.now) key) ≡ true) (sym c.self.view_is) up)
    c.in-None.ensures.steps.0)
