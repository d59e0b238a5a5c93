use Rattle.shard_calls.proofs.Calling.{was_written, was_not_written}
use Rattle.shard_calls.proofs.transactions.write_at.Goals as goal

pub returns-clause-ok : goal.returns-clause-ok
returns-clause-ok g c =
    let is = c.write_in.ensures.written in
    was_written g.W.World.opening g.W.World.limits c.args.here.now c.shard.result.now c.shard.ensures.seat c.shard.ensures.keyspace
    c.args.pass.now c.write_in.new.pass c.args.pending.now is.0 is.1 is.2 is.3 c.write_in.ensures.past is.4 c.args.write c.write_in.new.tx c.write_in.result is.5

pub returns-clause-err : goal.returns-clause-err
returns-clause-err g c =
    let is = c.write_in.ensures.written in
    was_not_written g.W.World.opening g.W.World.limits c.args.here.now c.shard.result.now c.shard.ensures.seat c.shard.ensures.keyspace
    c.args.pass.now c.write_in.new.pass c.args.pending.now is.0 is.1 is.2 is.3 c.write_in.ensures.past is.4 c.args.write c.write_in.new.tx c.write_in.result is.5
