use Rattle.std.proofs.Common.{◌≡◌, ◌++◌, drop}
use Rattle.std.specs.Prelude.{flat_map}
use Rattle.status_page.specs.Shards.{shard_line}
use Rattle.status_page.proofs.samples.put_samples.Given as goal

abbrev pub invariant-loop-shard : goal.invariant-loop-shard
invariant-loop-shard l =
    l.out.items ++ flat_map (shard_line l.measure) (drop l.shard-index l.shards) ≡ l.fn.out.items ++ flat_map (shard_line l.measure) l.shards
