-- The steps that a state keeps: of each source the last Copy, and the last entry that it followed after that, so that their number grows neither
-- with the run nor with the tables.
use Rattle.std.specs.Prelude.{ℕ, Bool, false, not, ◌==◌, List, [], ◌∷◌, ◌++◌}
use Rattle.std.specs.List.{filter}
use Rattle.shard_law.specs.ShardRunRuns.{Run}
use Rattle.shard_contents.specs.declared.target_steps.TargetStep.{TargetStep}
use Rattle.shard_contents.specs.declared.target_steps.TargetStep.TheVariants.{Followed, Copied}
use Rattle.shard_contents.specs.Progress.{steps_on}
use Rattle.shard_contents.specs.inner.Progress.{source_of}

-- the step copied rows from the source
abbrev pub is_copy_from : ℕ → TargetStep → Bool
is_copy_from source (Followed from place) = false
is_copy_from source (Copied from table place last row) = from == source

-- A later step tells all that an earlier one told. One that followed tells a position alone, so any step with its source does. A target copies
-- its tables in the order of their names, so the last Copy from a source tells what all earlier ones told.
abbrev pub supersedes : TargetStep → TargetStep → Bool
supersedes x (Followed source place) = source_of x == source
supersedes x (Copied source table place last row) = is_copy_from source x

-- one more step, after which those that it supersedes are gone
abbrev pub keep : TargetStep → List TargetStep → List TargetStep
keep x steps = filter (λ y. not (supersedes x y)) steps ++ x ∷ []

abbrev pub kept_from : List TargetStep → List TargetStep → List TargetStep
kept_from kept [] = kept
kept_from kept (x ∷ steps) = kept_from (keep x kept) steps

-- what is kept of the steps that a run has on a slot
abbrev pub kept_on : ℕ → Run → List TargetStep
kept_on slot run = kept_from [] (steps_on slot run)
