use Rattle.std.proofs.Common.{refl, sym}
use Rattle.std.proofs.lemmas.Result.{err_from_is_err_and}
use Rattle.vschema.specs.Database.{rows_of}
use Rattle.shard_store.specs.Writes.{written_table}
use Rattle.shard_contents.proofs.Changes.{table_read, unprepared, no_room}
use Rattle.shard_contents.proofs.contents.Contents.changes.Goals as goal

pub returns-in_err-changes-clause-err : goal.returns-in_err-changes-clause-err
returns-in_err-changes-clause-err c =
    let p = err_from_is_err_and c.from_residual.result c.from_residual.ensures.1 in
    let table = table_read c.args.schema.now c.written_table-ordinal.result (written_table c.args.write.now) c.as_slice.result.now
    c.index-as_slice-ordinal.result c.written_table-ordinal.ensures c.as_slice.ensures c.requires.there c.index-as_slice-ordinal.is in
    rw (p.1, p.2)
    (unprepared c.args.schema.now c.args.self.now.limits c.args.entries _ c.args.self.now.store.rows c.args.write.now c.index-as_slice-ordinal.result
    (rows_of c.args.self.now.store.rows (written_table c.args.write.now)) table refl c.in_err-changes.field-0.0 c.in_err-changes.ensures.err)

pub returns-then-not-has_room-clause-err : goal.returns-then-not-has_room-clause-err
returns-then-not-has_room-clause-err c =
    let table = table_read c.args.schema.now c.written_table-ordinal.result (written_table c.args.write.now) c.as_slice.result.now
    c.index-as_slice-ordinal.result c.written_table-ordinal.ensures c.as_slice.ensures c.requires.there c.index-as_slice-ordinal.is in
    no_room c.args.schema.now c.args.self.now.limits c.args.entries _ c.args.self.now.store.rows c.args.write.now c.index-as_slice-ordinal.result
    (rows_of c.args.self.now.store.rows (written_table c.args.write.now)) table refl c.in_ok-changes.changes c.in_ok-changes.ensures.ok (sym c.if-not-has_room.ensures)
