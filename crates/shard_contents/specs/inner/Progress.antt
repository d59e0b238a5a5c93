-- What a step of a target was.
use Rattle.std.specs.Prelude.{ℕ}
use Rattle.shard_contents.specs.declared.target_steps.TargetStep.{TargetStep}
use Rattle.shard_contents.specs.declared.target_steps.TargetStep.TheVariants.{Followed, Copied}

abbrev pub source_of : TargetStep → ℕ
source_of (Followed source place) = source
source_of (Copied source table place last row) = source
