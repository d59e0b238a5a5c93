use Rattle.std.proofs.Common.{◌∙◌, ap}
use Rattle.std.specs.Map.{keys_of}
use Rattle.std.specs.Ordering.{eq_by_cmp}
use Rattle.std.proofs.lemmas.Map.Made.{is_some-lookup}
use Rattle.shard_store.specs.declared.removed_rows.LentRow.{LentRow}
use Rattle.shard_store.specs.inner.Overlays.{ColumnKeys, lent_cmp, is_gone}
use Rattle.shard_store.proofs.Overlaid.{among}
use Rattle.shard_store.proofs.removed_rows.RemovedRows.has.Goals as goal

pub returns : goal.returns
returns c =
    let lent : LentRow = record { columns = c.self.inside.columns; row = c.args.row } in
    c.contains_key.ensures ∙ is_some-lookup (eq_by_cmp lent_cmp lent) c.self.inside.rows.entries
    ∙ among lent (keys_of c.self.inside.rows.entries)
    ∙ ap (λ (v : ColumnKeys). is_gone v c.args.row.now) c.self.view_is
