-- Which of the sources a target takes from, and when targets may take the sources' place.
use Rattle.std.specs.Prelude.{List, map, Contains}
use Rattle.std.specs.List.{AllByRecursion}
use Rattle.keyrange.specs.declared.KeyRange.{KeyRange}
use Rattle.keyrange.specs.Ranges.{Overlap}
use Rattle.serving.specs.Partitions.{Seat}
use Rattle.shard.specs.Seats.{seat_of}
use Rattle.shard_run.specs.declared.ShardRecord.{ShardRecord}
use Rattle.reshard_cutover.specs.Steps.{named_for, IsTargetOf, FitTargets}
use Rattle.reshard_cutover.specs.TargetSources.{TargetWithSources, shards_of}
use Rattle.reshard_cutover.specs.Overlapping.{TakeFromOwn}

-- of these sources the ones that overlap the range
pub record AreOverlapped (sources : List ShardRecord) (range : KeyRange) (own : List ShardRecord) : Type 0 where
  pub among : AllByRecursion (Contains sources) own
  pub all : (s : ShardRecord) → Contains sources s → Overlap s.place.range range → Contains own s

-- the targets may take the sources' place, each with those that overlap it
pub record IsSplit (sources : List ShardRecord) (targets : List TargetWithSources) : Type 0 where
  pub fit : AllByRecursion (λ s. FitTargets s (named_for s (shards_of targets))) sources
  pub of_sources : AllByRecursion (λ t. IsTargetOf sources t.0) targets
  pub own : TakeFromOwn targets

abbrev pub target_seats : List TargetWithSources → List Seat
target_seats targets = map (λ t. seat_of t.0) targets
