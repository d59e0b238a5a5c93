use Rattle.shard_contents.proofs.Bags.{same_is}
use Rattle.shard.specs.inner.Snapshots.{selected, to_select}
use Rattle.shard.proofs.snapshot.rows_in.Goals as goal

pub returns-then-scans-clause-rows : goal.returns-then-scans-clause-rows
returns-then-scans-clause-rows c = to_select (same_is _ _ c.in_ok-snapshot.ensures.snapshot)

pub returns-clause-rows : goal.returns-clause-rows
returns-clause-rows c = selected c.in_ok-rows.ensures.ok
