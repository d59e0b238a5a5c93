use Rattle.std.proofs.Common.{◌≡◌, ◌⊎◌, Ok, Err, ap, sym, subst, ◌∙◌}
use Rattle.std.proofs.lemmas.Result.{err_from_is_err_and}
use Rattle.vt_value.specs.declared.refusal.Refusal.TheVariants.{OutOfMemory, DuplicateKey}
use Rattle.vschema.specs.declared.changes.Write.{Write}
use Rattle.vschema.specs.Database.{all_applied}
use Rattle.shard_contents.specs.Writes.{written_table, changes_of}
use Rattle.shard_contents.specs.Transactions.{PendingView, IsStopped, IsWriteRefusal, HasWrittenIn}
use Rattle.shard_contents.specs.Transactions as t
use Rattle.shard.proofs.LooksIn as l
use Rattle.shard.proofs.state.ShardState.write_in.Goals as goal

pub returns-in_err-write-clause-err : goal.returns-in_err-write-clause-err
returns-in_err-write-clause-err g c =
    let p = err_from_is_err_and c.from_residual.result c.from_residual.ensures.1 in
    rw (p.1, p.2) (t.stopped (l.err_of (IsStopped g.W.World.opening c.args.self.now.shard c.check.new.self.seen c.args.tx.now) c.check.result c.in_err-write.field-0.0 c.in_err-write.ensures.err c.check.ensures.err))

pub returns-in_err-changes-clause-err : goal.returns-in_err-changes-clause-err
returns-in_err-changes-clause-err g c =
    let p = err_from_is_err_and c.from_residual-in_err-changes.result c.from_residual-in_err-changes.ensures.1 in
    let o = g.W.World.opening in
    let clear = l.on_ok_of c.check.result c.in_ok-write.field-0-0 c.in_ok-write.ensures.ok.0 c.check.ensures.clear in
    let own : c.tx.inside.changes ≡ c.args.tx.now.changes = ap (λ (x : PendingView). x.changes) c.tx.view_is in
    let why = l.err_of
    (λ e. (e ≡ OutOfMemory)
    ⊎ ((e ≡ DuplicateKey) × (changes_of c.args.schema.now c.in_ok-write.write (all_applied c.tx.inside.changes c.self.inside.contents.store.rows) ≡ Err DuplicateKey)))
    c.changes_in_transaction-made.result c.in_err-changes.field-0.0 c.in_err-changes.ensures.err c.changes_in_transaction-made.ensures.err in
    rw (p.1, p.2)
    (subst (λ (w : Write). IsWriteRefusal o c.args.self.now.shard c.check.new.self.seen c.args.tx.now w c.in_err-changes.field-0.0) c.in_ok-write.ensures.ok.1
    (l.write_refused o g.W.World.limits c.self.inside.seat c.self.inside.contents c.self.invariant.0 _ c.self.view_is c.args.self.now.shard c.check.ensures.shard
    c.args.tx.now clear c.check.ensures.seen.legal c.tx.inside.changes own c.args.schema.now c.requires.schema c.in_ok-write.write c.in_err-changes.field-0.0 why))

pub returns-in_err-add-clause-err : goal.returns-in_err-add-clause-err
returns-in_err-add-clause-err g c =
    let p = err_from_is_err_and c.from_residual-in_err-add.result c.from_residual-in_err-add.ensures.1 in
    rw (p.1, p.2) t.no_memory

pub returns-clause-written : goal.returns-clause-written
returns-clause-written g c =
    let o = g.W.World.opening in
    let clear = l.on_ok_of c.check.result c.in_ok-write.field-0-0 c.in_ok-write.ensures.ok.0 c.check.ensures.clear in
    let own : c.tx.inside.changes ≡ c.args.tx.now.changes = ap (λ (x : PendingView). x.changes) c.tx.view_is in
    let made = c.in_ok-changes.ensures.ok in
    let over : changes_of c.args.schema.now c.in_ok-write.write (all_applied c.tx.inside.changes c.self.inside.contents.store.rows) ≡ Ok c.in_ok-changes.changes =
    l.ok_of
    (λ more. changes_of c.args.schema.now c.in_ok-write.write (all_applied c.tx.inside.changes c.self.inside.contents.store.rows) ≡ Ok more)
    c.changes_in_transaction-made.result c.in_ok-changes.changes made.0 c.changes_in_transaction-made.ensures.ok in
    subst (λ (w : Write). HasWrittenIn o c.args.self.now.shard c.args.tx.now c.check.new.self.seen w c.len-2.result c.add.new.self)
    (made.1 ∙ c.in_ok-write.ensures.ok.1)
    (l.written o g.W.World.limits c.self.inside.seat c.self.inside.contents c.self.invariant.0 _ c.self.view_is c.args.self.now.shard c.check.ensures.shard
    c.args.tx.now clear c.check.ensures.seen.legal c.tx.inside.changes own c.args.schema.now c.requires.schema c.in_ok-changes.write c.in_ok-changes.changes
    c.as_slice.result.now c.as_slice.ensures
    (ap (λ (w : Write). changes_of c.args.schema.now w (all_applied c.tx.inside.changes c.self.inside.contents.store.rows)) made.1 ∙ over)
    c.written_table.result c.len.result c.len-2.result c.add.new.self (c.written_table.ensures ∙ ap written_table (sym made.1))
    c.len.ensures c.len-2.ensures c.in_ok-add.ensures.ok)
