use Rattle.std.proofs.Common.{ap, sym, ◌∙◌}
use Rattle.vschema.specs.Database.{rows_of, all_applied}
use Rattle.shard_store.specs.Writes.{written_table}
use Rattle.shard_contents.proofs.Changes.{table_read, whole_changes, whole_refused}
use Rattle.shard_contents.proofs.OneTable.{others_kept}
use Rattle.shard_contents.proofs.contents.Contents.changes_in_transaction.Goals as goal

pub returns-then-not-may_change-clause-ok : goal.returns-then-not-may_change-clause-ok
returns-then-not-may_change-clause-ok c =
    let db = c.args.self.now.store.rows in
    let changes = c.args.changes.now in
    let table = table_read c.args.schema.now c.written_table-ordinal.result (written_table c.args.write.now) c.as_slice.result.now c.index-as_slice-ordinal.result
    c.written_table-ordinal.ensures c.as_slice.ensures c.requires.there c.index-as_slice-ordinal.is in
    let rows = ap (rows_of db) (sym c.written_table-ordinal.ensures) ∙ sym (others_kept changes db c.written_table-ordinal.result (c.may_change.ensures c.if-not-may_change.true))
    ∙ ap (rows_of (all_applied changes db)) c.written_table-ordinal.ensures in
    whole_changes c.args.schema.now c.args.write.now (all_applied changes db) c.index-as_slice-ordinal.result (rows_of db (written_table c.args.write.now)) table rows c.changes.result
    c.changes.ensures.ok

pub returns-then-not-may_change-clause-err : goal.returns-then-not-may_change-clause-err
returns-then-not-may_change-clause-err c =
    let db = c.args.self.now.store.rows in
    let changes = c.args.changes.now in
    let table = table_read c.args.schema.now c.written_table-ordinal.result (written_table c.args.write.now) c.as_slice.result.now c.index-as_slice-ordinal.result
    c.written_table-ordinal.ensures c.as_slice.ensures c.requires.there c.index-as_slice-ordinal.is in
    let rows = ap (rows_of db) (sym c.written_table-ordinal.ensures) ∙ sym (others_kept changes db c.written_table-ordinal.result (c.may_change.ensures c.if-not-may_change.true))
    ∙ ap (rows_of (all_applied changes db)) c.written_table-ordinal.ensures in
    whole_refused c.args.schema.now c.args.write.now (all_applied changes db) c.index-as_slice-ordinal.result (rows_of db (written_table c.args.write.now)) table rows c.changes.result
    c.changes.ensures.err
