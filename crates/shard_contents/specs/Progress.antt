-- How far a target has come with its sources: a step for each of its Follow and Copy entries. Kept tells which of them its state has.
use Rattle.std.specs.Prelude.{ℕ, ◌+◌, List, [], ◌∷◌, flat_map, Option, Some, None}
use Rattle.vt_value.specs.Values.{Row}
use Rattle.shard_law.specs.Event.{Event}
use Rattle.shard_law.specs.Event.TheVariants.{Follow, Copy}
use Rattle.shard_law.specs.ShardRunRuns.{Run, entries_on}
use Rattle.shard_law.specs.Copies.{is_last}
use Rattle.shard_contents.specs.declared.target_steps.TargetStep.{TargetStep}
use Rattle.shard_contents.specs.declared.target_steps.TargetStep.TheVariants.{Followed, Copied}

abbrev pub last_row : List Row → Option Row
last_row [] = None
last_row (row ∷ []) = Some row
last_row (row ∷ next ∷ rows) = last_row (next ∷ rows)

abbrev pub steps_of : Event → List TargetStep
steps_of (Follow f) = Followed f.source f.log_position ∷ []
steps_of (Copy c) = Copied c.source c.table c.log_position (is_last c) (last_row c.rows) ∷ []
steps_of _ = []

-- the steps that a run has on a slot, the oldest first
abbrev pub steps_on : ℕ → Run → List TargetStep
steps_on slot run = flat_map (λ e. steps_of e.event) (entries_on slot run)

-- how many of the source's stored entries the target stands after once it took the step
abbrev pub step_position : TargetStep → ℕ
step_position (Followed source place) = place + 1
step_position (Copied source table place last row) = place
