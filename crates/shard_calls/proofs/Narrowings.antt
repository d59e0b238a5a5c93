-- What was read for a narrowed query is what the whole one gives.
use Rattle.std.proofs.Common.{ℕ, List, Option}
use Rattle.vt_value.specs.Values.{Row}
use Rattle.planner.specs.Slices.{shown_at}
use Rattle.vschema.specs.declared.schema.Query.{Query}
use Rattle.vschema.specs.Database.{all_applied}
use Rattle.vschema.specs.Sources.{source_rows}
use Rattle.shard.specs.Narrowing.{narrowed, ShowsAt}
use Rattle.shard.specs.ShardRecord.{ShardRecord}
use Rattle.shard.specs.Runs.{Run, Opening, shard_rows}
use Rattle.shard.specs.Transactions.{PendingView, HasReadIn}

pub read_whole : (o : Opening) (s : ShardRecord) (v : PendingView) (run : Run) (q : Query) (ordinals : Option (List ℕ)) → ShowsAt q ordinals
    → (rows : List Row) (entries : ℕ) (w : PendingView) → HasReadIn o s v run (narrowed q) rows entries w → HasReadIn o s v run q (shown_at ordinals rows) entries w
read_whole o s v run q ordinals shows rows entries w has = record {
  clear = has.clear;
  allowed = shows.answers (source_rows q (all_applied v.changes (shard_rows o run s))) rows has.allowed;
  count = has.count;
  touch = has.touch;
}
