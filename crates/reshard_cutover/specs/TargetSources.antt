-- The targets of a workflow, each with its sources.
use Rattle.std.specs.Prelude.{List, map}
use Rattle.shard_run.specs.declared.ShardRecord.{ShardRecord}

-- a target, and the sources that it takes from
abbrev pub TargetWithSources : Type 0
TargetWithSources = ShardRecord × List ShardRecord

-- the targets alone
abbrev pub shards_of : List TargetWithSources → List ShardRecord
shards_of targets = map (λ t. t.0) targets
