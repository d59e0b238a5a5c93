use Rattle.std.proofs.Common.{◌≡◌, take}
use Rattle.reshard_create.proofs.reopening.found_shards.copy_shards.Given as goal

-- the shards so far
abbrev pub invariant-loop-shard : goal.invariant-loop-shard
invariant-loop-shard l = l.copies ≡ take l.shard-index l.shards
