-- What a workflow is once it is made again from its shards.
use Rattle.std.specs.Prelude.{◌≡◌, ◌==◌, ◌&&◌, ℕ, Bool, zero, suc, true, List, length}
use Rattle.std.specs.List.{list_any}
use Rattle.serving.specs.Partitions.{Seat}
use Rattle.journal.specs.Views.{PassView}
use Rattle.shard_run.specs.declared.Entry.{Entry}
use Rattle.shard_run.specs.Runs.{Opening}
use Rattle.reshard.specs.declared.workflow.Stage.{Stage}
use Rattle.reshard.specs.declared.workflow.Stage.TheVariants as stages
use Rattle.reshard_create.specs.reopening.Rebuilt.{AreMadeAgain}
use Rattle.reshard.specs.Workflows.{WorkflowView}

-- a cutover has begun once a source is frozen
abbrev pub stage_at : ℕ → Stage
stage_at zero = stages.Following
stage_at (suc n) = stages.Switching

-- whether a part of the partition stands on the slot of one of these seats
abbrev pub has_any : List Seat → List Seat → Bool
has_any parts seats = list_any (λ seat. list_any (λ part. part.0 == seat.0) parts) seats

-- the next partition was published if the present one has a target, and all targets serve
abbrev pub is_published : List Seat → List Seat → ℕ → Bool
is_published parts into served = has_any parts into && served == length into

-- The workflow is made again from the shards of these seats. The memory of its cutover is made, and the next partition was published if all
-- targets serve, and the partition that it is found in has one of them.
pub record IsReopened (o : Opening) (p now : PassView Entry) (from into : List Seat) (w next : WorkflowView) : Type 0 where
  pub parts : List Seat
  pub made : AreMadeAgain o p now w.keyspace parts from into next.sources next.targets next.frozen next.retired next.served
  pub published : next.published ≡ is_published parts into next.served
  pub at : next ≡ record w {
    stage = stage_at next.frozen;
    sources = next.sources;
    targets = next.targets;
    frozen = next.frozen;
    retired = next.retired;
    served = next.served;
    stored = next.stored;
    prepared = true;
    published = next.published;
  }
