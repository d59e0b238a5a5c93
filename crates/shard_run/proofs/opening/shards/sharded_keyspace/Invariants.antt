use Rattle.std.proofs.Common.{◌≡◌, drop}
use Rattle.vschema.specs.Schema.{ordinal_from}
use Rattle.shard_run.proofs.opening.shards.sharded_keyspace.Given as goal

abbrev pub invariant-loop-ordinal : goal.invariant-loop-ordinal
invariant-loop-ordinal l =
    ordinal_from (λ k. k.sharded) l.ordinal (drop l.ordinal l.schema.keyspaces) ≡ ordinal_from (λ k. k.sharded) 0 l.schema.keyspaces
