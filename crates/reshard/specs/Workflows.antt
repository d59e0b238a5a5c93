-- What contracts see of a workflow, and what it keeps.
use Rattle.std.specs.Prelude.{◌≡◌, ℕ, ◌++◌, Bool, List}
use Rattle.std.specs.List.{AllByRecursion}
use Rattle.journal.specs.Views.{SeatView}
use Rattle.serving.specs.Partitions.{Seat, IsPartition, AreOf}
use Rattle.shard_run.specs.declared.ShardRecord.{ShardRecord}
use Rattle.shard_run.specs.declared.Entry.{Entry}
use Rattle.shard_run.specs.Runs.{Opening}
use Rattle.shard_run.specs.Openings.{IsOpening}
use Rattle.reshard_create.specs.Limits.{Limits}
use Rattle.reshard_create.specs.declared.config.ReshardConfig.{ReshardConfig}
use Rattle.reshard.specs.declared.workflow.Stage.{Stage}
use Rattle.reshard.specs.declared.workflow.Stage.TheVariants as stages
use Rattle.reshard_create.specs.TargetSources.{TargetWithSources}
use Rattle.reshard_create.specs.Configs.{IsReshardConfig, IsFree}
use Rattle.reshard_create.specs.Splits.{IsSplit, target_seats}

-- How far it is, in which keyspace, the slots that no shard ever stood on, and the shards that it replaces, and by which; how many of the
-- first of these are frozen or retired, and how many of those serve; how many entries each source is noted to have stored, since it was frozen; whether
-- the memory of the cutover is made, and whether the next partition was published.
pub record WorkflowView : Type 0 where
  pub stage : Stage
  pub keyspace : ℕ
  pub free : List ℕ
  pub sources : List ShardRecord
  pub targets : List TargetWithSources
  pub frozen : ℕ
  pub retired : ℕ
  pub served : ℕ
  pub stored : List ℕ
  pub prepared : Bool
  pub published : Bool

-- What it keeps: the targets may take the sources' place, and with the parts that stay they make a partition of the keyspace. The seats are
-- those of the targets' shards.
pub record IsWorkflow (o : Opening) (most : Limits) (g : ReshardConfig) (stage : Stage) (free : List (SeatView Entry)) (sources : List ShardRecord)
    (targets : List TargetWithSources) (seats rest : List Seat) : Type 0 where
  pub opens : IsOpening o
  pub config : IsReshardConfig o most g
  pub seats_free : AllByRecursion (IsFree o) free
  pub split : IsSplit sources targets
  pub seated : seats ≡ target_seats targets
  pub next : (stage ≡ stages.None → ⊥) → IsPartition (rest ++ seats)
  pub home : AreOf g.keyspace (rest ++ seats)
