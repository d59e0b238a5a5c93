-- What a look at a shard of a stopped workflow finds.
use Rattle.std.specs.Prelude.{◌≡◌, ℕ, List, map}
use Rattle.serving.specs.Partitions.{Seat}
use Rattle.shard.specs.Place.{Place}
use Rattle.shard_run.specs.declared.ShardRecord as S
use Rattle.shard_run.specs.declared.Mode.{Mode}
use Rattle.shard_run.specs.declared.Mode.TheVariants as modes
use Rattle.shard_run.specs.declared.Event.TheVariants as events
use Rattle.shard_run.specs.Runs.{Run, Opening, mode}
use Rattle.shard_law.specs.Legal.{IsOnItsSlot}
use Rattle.journal.specs.Views.{PassView}
use Rattle.shard_run.specs.declared.Entry.{Entry}
use Rattle.reshard_cutover.specs.Overlapping.{AreThose}
use Rattle.reshard_create.specs.reopening.Rebuilt.{FoundView, AreFound}
use Rattle.reshard_cutover.specs.Steps.{HasEntry}
use Rattle.reshard_cutover.specs.TargetSources.{TargetWithSources}

-- after the run this shard stands on the slot, at the place, in this mode; if it is retired, its entry names these targets
pub record IsSnapshot (o : Opening) (run : Run) (slot : ℕ) (place : Place) (s : S.ShardRecord) (m : Mode) (named : List S.ShardRecord) : Type 0 where
  pub at : s.slot ≡ slot
  pub in_place : s.place ≡ place
  pub stands : IsOnItsSlot o run s
  pub in_mode : m ≡ mode o run s.slot
  pub names : m ≡ modes.Retired → HasEntry run s (events.Retire named)

-- the target is made again: it takes from those of the sources that overlap it
pub record IsRebuiltTarget (sources : List S.ShardRecord) (t : TargetWithSources) : Type 0 where
  pub those : AreThose t.0.place.range sources t.1
  pub are : t.0.sources ≡ map (λ s. s.slot) t.1

-- the shards of these seats, as looks found them, of ranges that have names
pub record IsBoth (o : Opening) (p now : PassView Entry) (from into : List Seat) (sources targets : List FoundView) : Type 0 where
  pub of_sources : AreFound o p now from sources
  pub of_targets : AreFound o p now into targets
