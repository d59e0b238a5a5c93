use Rattle.shard_run.proofs.opening.Opens.{nothing_is}
use Rattle.shard_run.proofs.opening.shards.empty_tables.Goals as goal

pub returns : goal.returns
returns c = let e = c.len.ensures in rw e (nothing_is c.before.args.schema.now.tables)
