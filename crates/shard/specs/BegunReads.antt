-- What a read has after its look, before it answers.
use Rattle.std.specs.Prelude.{List}
use Rattle.vschema.specs.declared.schema.Query.{Query}
use Rattle.shard_run.specs.declared.ShardRecord.{ShardRecord}
use Rattle.shard_run.specs.declared.Entry.{Entry}
use Rattle.shard_run.specs.Runs.{Opening}
use Rattle.shard_contents.specs.declared.outcomes.ReadOutcome.{ReadOutcome}
use Rattle.shard_contents.specs.Shards.{AnswersQuery}
use Rattle.shard.specs.Snapshots.{SnapshotView, IsSnapshotAt}
use Rattle.shard.specs.declared.snapshot.BegunRead.{BegunRead}
use Rattle.shard.specs.declared.snapshot.BegunRead.TheVariants.{Answered, Begun}

-- a read of the shard has looked at it after the run: it has its answer, or a snapshot of then
pub data HasBegunRead (o : Opening) (run : List Entry) (s : ShardRecord) (query : Query) : BegunRead → Type 0 where
  answered : {outcome : ReadOutcome} → AnswersQuery o run s query outcome → HasBegunRead o run s query (Answered outcome)
  begun : {snapshot : SnapshotView} → IsSnapshotAt o run s snapshot → HasBegunRead o run s query (Begun snapshot)
