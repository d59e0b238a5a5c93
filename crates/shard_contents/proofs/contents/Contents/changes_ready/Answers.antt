use Rattle.std.proofs.Common.{◌<◌, List, length, get_or, sym, subst, arith}
use Rattle.std.proofs.lemmas.Result.{err_from_is_err_and}
use Rattle.std.specs.List.{AllByRecursion}
use Rattle.vschema.specs.declared.changes.RowChange.{RowChange}
use Rattle.vschema.specs.Schema.{no_table}
use Rattle.vschema.specs.Database.{rows_of, changed_table}
use Rattle.shard_store.specs.Writes.{written_table}
use Rattle.shard_store.specs.Stores.{IsReadyFor}
use Rattle.shard_contents.specs.inner.Commits.{no_memory}
use Rattle.shard_contents.proofs.Changes.{of_table, there_all}
use Rattle.shard_contents.proofs.contents.Contents.changes_ready.Goals as goal

pub returns-in_err-changes-clause-err : goal.returns-in_err-changes-clause-err
returns-in_err-changes-clause-err c =
    let p = err_from_is_err_and c.from_residual.result c.from_residual.ensures.1 in
    rw (p.1, p.2) c.in_err-changes.ensures.err

pub returns-in_err-room-clause-err : goal.returns-in_err-room-clause-err
returns-in_err-room-clause-err c =
    let p = err_from_is_err_and c.from_residual-in_err-room.result c.from_residual-in_err-room.ensures.1 in
    rw (p.1, p.2) no_memory

pub make_room-requires : goal.make_room-requires
make_room-requires c =
    let schema = c.args.schema.now in
    let w = c.args.write.now in
    let rows = c.args.self.now.store.rows in
    let of = of_table (get_or schema.tables (written_table w) no_table) w (rows_of rows (written_table w)) c.in_ok-changes.changes c.in_ok-changes.ensures.changes in
    let there = c.requires.there in
    let tables = c.requires.tables in
    subst (AllByRecursion (λ (x : RowChange). changed_table x < length rows)) (sym c.as_slice.ensures)
    (there_all (written_table w) (length rows) c.in_ok-changes.changes of (omega (arith, there, tables)))

pub returns-clause-ready : goal.returns-clause-ready
returns-clause-ready c =
    subst (λ (l : List RowChange). IsReadyFor c.make_room.new.self.store l c.in_ok-room.room.1.items) c.as_slice.ensures c.in_ok-room.ensures.ready
