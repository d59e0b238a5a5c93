-- The first of several targets that isn't level moves.
use Rattle.std.specs.Prelude.{◌≡◌, ◌+◌, ◌++◌, ◌∷◌, List, Contains}
use Rattle.std.specs.List.{AllByRecursion}
use Rattle.journal.specs.Views.{PassView}
use Rattle.vt_value.specs.declared.refusal.Refusal.TheVariants.{OutOfMemory, ShardFull}
use Rattle.shard_contents.specs.Limits.{Limits}
use Rattle.shard_run.specs.declared.Entry.{Entry}
use Rattle.shard_run.specs.Runs.{Opening}
use Rattle.follow.specs.Steps.{HasMovedWith, IsFull}
use Rattle.follow.specs.Turns.{FirstInTurn, RefusedInTurn, IsOneStepWith, IsNoStepWith}
use Rattle.follow.specs.declared.steps.Step.{Step}
use Rattle.follow.specs.declared.steps.Step.TheVariants.{Level}
use Rattle.reshard_cutover.specs.declared.fault.ReshardFault.{ReshardFault}
use Rattle.reshard_cutover.specs.declared.fault.ReshardFault.TheVariants.{Refused}
use Rattle.reshard_cutover.specs.TargetSources.{TargetWithSources}

-- The first of the targets, each with its sources, that isn't level with them moves; or all are level.
pub data HasMovedFirst (o : Opening) (targets : List TargetWithSources) (p now : PassView Entry) : Step → Type 0 where
  one : {step : Step} (before after : List TargetWithSources) (t : TargetWithSources) → targets ≡ before ++ t ∷ after → AllByRecursion (λ t. HasMovedWith o t.1 t.0 p now Level) before
      → HasMovedWith o t.1 t.0 p now step → HasMovedFirst o targets p now step
  all_level : AllByRecursion (λ t. HasMovedWith o t.1 t.0 p now Level) targets → HasMovedFirst o targets p now Level

-- one step of the first of the targets, each with its sources, that isn't level with them
abbrev pub IsOneStepFirst : List TargetWithSources → PassView Entry → PassView Entry → Step → Type 0
IsOneStepFirst targets p now step = FirstInTurn (λ t. IsOneStepWith t.1 t.0) targets p now step

-- a step of the first of the targets, each with its sources, that isn't level with them is refused: those before it were level
abbrev pub IsNoStepFirst : List TargetWithSources → PassView Entry → PassView Entry → Type 0
IsNoStepFirst targets p now = RefusedInTurn (λ t. IsOneStepWith t.1 t.0) (λ t. IsNoStepWith t.1 t.0) targets p now

-- a step of the first of the targets that isn't level would pass a limit of it, if it came next, so it is refused
abbrev pub IsFullFirst : Opening → Limits → List TargetWithSources → PassView Entry → PassView Entry → Type 0
IsFullFirst o most targets p now =
    RefusedInTurn (λ t. IsOneStepWith t.1 t.0) (λ t p q. IsNoStepWith t.1 t.0 p q × IsFull o most t.0 q.seen) targets p now

-- why no target moves: want of memory, or a step of one of them that may come next passes a limit of it
pub data IsMoveRefusal (o : Opening) (most : Limits) (targets : List TargetWithSources) (now : PassView Entry) : ReshardFault → Type 0 where
  no_memory : IsMoveRefusal o most targets now (Refused OutOfMemory)
  full : (t : TargetWithSources) → Contains targets t → IsFull o most t.0 now.seen → IsMoveRefusal o most targets now (Refused ShardFull)
