use Rattle.std.proofs.lemmas.Result.{err_from_is_err_and}
use Rattle.shard_contents.specs.Transactions as t
use Rattle.shard.proofs.state.ShardState.read_in.Goals as goal

pub returns-in_err-reading-clause-err : goal.returns-in_err-reading-clause-err
returns-in_err-reading-clause-err g c =
    let p = err_from_is_err_and c.from_residual-in_err-reading.result c.from_residual-in_err-reading.ensures.1 in
    rw (p.1, p.2) t.no_memory

pub returns-clause-read : goal.returns-clause-read
returns-clause-read g c =
    c.in_ok-reading.ensures.read g.W.World.opening c.begin_read_in.new.self.seen c.args.self.now.shard c.in_ok-begun.ensures.begun
