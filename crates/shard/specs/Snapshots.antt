-- The rows of a shard as they were at a look, and how many entries it had then.
use Rattle.std.specs.Prelude.{◌≡◌, ℕ, ◌≤◌, ◌^◌, IsTrue, List, length}
use Rattle.vschema.specs.Database.{Database, SameRows}
use Rattle.shard_run.specs.declared.ShardRecord.{ShardRecord}
use Rattle.shard_run.specs.declared.Entry.{Entry}
use Rattle.shard_run.specs.Openings.{row_count}
use Rattle.shard_run.specs.Runs.{Opening, shard_rows, mode, answers_queries, entries_on}

pub record SnapshotView : Type 0 where
  pub rows : Database
  pub entries : ℕ

-- The snapshot was taken after the run: the shard serves, its rows are, in any order, those that the run leaves on it, and so many entries
-- are on it.
pub record IsSnapshotAt (o : Opening) (run : List Entry) (s : ShardRecord) (snapshot : SnapshotView) : Type 0 where
  pub serves : IsTrue (answers_queries (mode o run s.slot))
  pub few : row_count (shard_rows o run s) ≤ 2 ^ 20
  pub rows : SameRows snapshot.rows (shard_rows o run s)
  pub count : snapshot.entries ≡ length (entries_on s.slot run)
