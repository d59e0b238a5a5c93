use Rattle.std.proofs.Common.{refl}
use Rattle.std.proofs.lemmas.Result.{err_from_is_err_and}
use Rattle.planner.specs.Slices.{shown_at}
use Rattle.shard_calls.specs.inner.InTransactions as w
use Rattle.shard_calls.proofs.Calling.{was_read, was_not_read}
use Rattle.shard_calls.proofs.Narrowings.{read_whole}
use Rattle.shard_calls.proofs.transactions.read_at.Goals as goal

pub returns-in_err-ordinals-clause-err : goal.returns-in_err-ordinals-clause-err
returns-in_err-ordinals-clause-err g c =
    let p = err_from_is_err_and c.from_residual.result c.from_residual.ensures.1 in rw (p.1, p.2) w.no_memory

pub returns-in-Ok-clause-ok : goal.returns-in-Ok-clause-ok
returns-in-Ok-clause-ok g c =
    let is = c.in-Ok.ensures.read in
    rw c.new.ensures
    (was_read g.W.World.opening g.W.World.limits c.args.here.now c.shard.result.now c.shard.ensures.seat c.shard.ensures.keyspace
    c.args.pass.now c.read_in.new.pass c.args.pending.now is.0 is.1 is.2 is.3 c.in-Ok.ensures.past is.4 c.args.query.now
    (shown_at c.in_ok-ordinals.ordinals c.in-Ok.reading.rows) c.in-Ok.reading.entries c.read_in.new.tx
    (read_whole g.W.World.opening is.0 c.args.pending.now c.read_in.new.pass.seen c.args.query.now c.in_ok-ordinals.ordinals c.in_ok-ordinals.ensures.shows
    c.in-Ok.reading.rows c.in-Ok.reading.entries c.read_in.new.tx (rw c.query.ensures at is.5))
    c.set.new.self (rw (c.set.ensures, c.in_ok-ordinals.ensures.reads, c.slot-slot.ensures, c.shard.ensures.seat) refl))

pub returns-in-Err-clause-err : goal.returns-in-Err-clause-err
returns-in-Err-clause-err g c =
    let is = c.in-Err.ensures.read in
    was_not_read g.W.World.opening g.W.World.limits c.args.here.now c.shard.result.now c.shard.ensures.seat c.shard.ensures.keyspace
    c.args.pass.now c.read_in.new.pass c.args.pending.now is.0 is.1 is.2 is.3 c.in-Err.ensures.past is.4 c.in-Err.refusal is.5.0
