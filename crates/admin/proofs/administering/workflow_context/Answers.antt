use Rattle.std.proofs.Common.{rules, ◌≡◌, Some, arith}
use Rattle.shard_run.specs.opening.Empty.{sharded_keyspace}
use Rattle.admin.proofs.Free.{ordinal_below}
use Rattle.admin.proofs.administering.workflow_context.Goals as goal

pub returns-in_err-serving-clause-some : goal.returns-in_err-serving-clause-some
returns-in_err-serving-clause-some g c k wanted =
    let here : sharded_keyspace c.args.engine.now ≡ Some c.in_ok-keyspace.keyspace = search rules in
    let below = ordinal_below (λ k. k.sharded) 0 c.args.engine.now.keyspaces c.in_ok-keyspace.keyspace here in
    let there = c.partitions.ensures.there.1 (omega (arith, below)) in
    search (rules, there)
