use Rattle.std.proofs.Common.{◌≡◌, List, ap, sym, ◌∙◌}
use Rattle.std.proofs.lemmas.Result.{err_from_is_err_and}
use Rattle.vschema.specs.declared.changes.RowChange.{RowChange}
use Rattle.shard_law.specs.Openings.{row_count}
use Rattle.shard_contents.specs.Transactions.{PendingView}
use Rattle.shard_contents.specs.inner.Transactions.{has_room_for, no_memory, full}
use Rattle.shard_contents.specs.inner.StoredLogs.{count_of}
use Rattle.shard_contents.proofs.contents.Contents.prepare_in.Goals as goal

pub returns-in_err-kept-clause-err : goal.returns-in_err-kept-clause-err
returns-in_err-kept-clause-err c =
    let p = err_from_is_err_and c.from_residual.result c.from_residual.ensures.1 in
    rw (p.1, p.2) no_memory

pub returns-in-Err-clause-err : goal.returns-in-Err-clause-err
returns-in-Err-clause-err c = no_memory

pub returns-then-not-has_room_for-clause-err : goal.returns-then-not-has_room_for-clause-err
returns-then-not-has_room_for-clause-err c =
    let changes : c.as_slice.result.now ≡ c.args.tx.now.changes = c.as_slice.ensures.value ∙ ap (λ (x : PendingView). x.changes) c.tx.view_is in
    full (ap (λ (l : List RowChange). has_room_for c.args.self.now.limits c.args.entries (count_of c.args.self.now.stored.log) (row_count c.args.self.now.store.rows) l)
    (sym changes) ∙ sym c.if-not-has_room_for.ensures)
