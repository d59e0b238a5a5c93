use Rattle.std.proofs.Common.{◌≡◌, ◌++◌, drop, length}
use Rattle.shard_run.specs.opening.Empty.{shards_from}
use Rattle.shard_run.proofs.opening.shards.push_shards.Given as goal

abbrev pub invariant-loop-range : goal.invariant-loop-range
invariant-loop-range l =
    l.shards ++ shards_from (length l.shards) l.keyspace (drop l.range-index l.ranges)
    ≡ l.fn.shards ++ shards_from (length l.fn.shards) l.keyspace l.ranges
