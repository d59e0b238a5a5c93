use Rattle.std.proofs.Common.{◌∙◌, ◌||◌, ap}
use Rattle.std.specs.List.{list_any}
use Rattle.vt_value.specs.Values.{same_row}
use Rattle.shard_store.specs.Tables.{key_at}
use Rattle.shard_store.specs.inner.Overlays.{ColumnKeys}
use Rattle.shard_store.proofs.Overlaid.{keys_in, one_more}
use Rattle.shard_store.proofs.removed_rows.RemovedRows.add.Goals as goal

pub returns-clause-ok : goal.returns-clause-ok
returns-clause-ok c = λ key.
    ap (λ entries. list_any (same_row key) (keys_in entries)) c.in_ok-insert.ensures.entries
    ∙ one_more key (record { columns = c.self.inside.columns; row = c.args.row }) c.self.inside.rows.entries
    ∙ ap (λ (v : ColumnKeys). same_row key (key_at v.columns c.args.row.now) || list_any (same_row key) v.keys) c.self.view_is
