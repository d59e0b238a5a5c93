-- The memory that a cutover has made.
use Rattle.std.specs.Prelude.{◌≡◌, ℕ, Bool, true, false, List, map, drop}
use Rattle.shard_run.specs.declared.ShardRecord.{ShardRecord}
use Rattle.reshard_create.specs.Steps.{named_for}
use Rattle.reshard_create.specs.TargetSources.{TargetWithSources, shards_of}

-- once the memory of a cutover is made, there is for each source that isn't retired the list of the targets that it names; before, none is
-- retired
pub record IsPrepared (sources : List ShardRecord) (targets : List TargetWithSources) (retired : ℕ) (prepared : Bool) (named : List (List ShardRecord)) : Type 0 where
  pub before : prepared ≡ false → retired ≡ 0
  pub after : prepared ≡ true → named ≡ map (λ s. named_for s (shards_of targets)) (drop retired sources)
