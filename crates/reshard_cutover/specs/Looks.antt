-- What looks at the shards of a cutover show, at a run that the controller's pass came by.
use Rattle.std.specs.Prelude.{◌≡◌, ℕ, ◌⊎◌, ◌<◌, ◌≤◌, List, [], ◌∷◌, ◌++◌, map}
use Rattle.std.specs.List.{AllByRecursion}
use Rattle.journal.specs.Views.{PassView}
use Rattle.shard_run.specs.declared.ShardRecord.{ShardRecord}
use Rattle.shard_run.specs.declared.Entry.{Entry}
use Rattle.shard_run.specs.declared.Event.TheVariants as events
use Rattle.shard_run.specs.declared.Mode.TheVariants as modes
use Rattle.shard_run.specs.Runs.{Opening, Run, mode, shard_rows}
use Rattle.shard_run.specs.Openings.{row_count}
use Rattle.shard_contents.specs.Limits.{Limits}
use Rattle.follow.specs.Steps.{IsOnward, IsRunBetween}
use Rattle.follow.specs.Turns.{HasLookedAt}
use Rattle.reshard_cutover.specs.Steps.{HasEntry}
use Rattle.reshard_cutover.specs.TargetSources.{TargetWithSources}

-- At a run that the pass came by the shard served and wasn't frozen: a Freeze of it before was followed by its Thaw.
pub record IsServingAgain (o : Opening) (s : ShardRecord) (p now : PassView Entry) : Type 0 where
  pub run : Run
  pub between : IsRunBetween p now run
  pub serving : mode o run s.slot ≡ modes.Serving

-- the pass looked at the shard on the slot, as often as it may be, and at no other
pub record HasLookedOnlyAt (slot : ℕ) (p now : PassView Entry) : Type 0 where
  pub looks : List ℕ
  pub alone : AllByRecursion (λ n. n ≡ slot) looks
  pub looked : HasLookedAt looks p now

-- The pass looked at the shard on the slot three times, and at no other: once, and then the two looks that come right before a change of its mode
-- (HasChangedMode). So there is one such change, and no other shard's mode changes.
abbrev pub HasLookedForOneChange : ℕ → PassView Entry → PassView Entry → Type 0
HasLookedForOneChange slot p now = HasLookedAt (slot ∷ slot ∷ slot ∷ []) p now

-- The pass looked at this shard alone, once, or as for one change of its mode, and what it has seen then ends with the shard serving and not
-- frozen: so it was thawed, or its mode wasn't changed.
pub record HasThawed (o : Opening) (s : ShardRecord) (p now : PassView Entry) : Type 0 where
  pub onward : IsOnward o p now
  pub once : HasLookedAt (s.slot ∷ []) p now ⊎ HasLookedForOneChange s.slot p now
  pub serving : mode o now.seen s.slot ≡ modes.Serving

-- At a run that the pass came by the shard was retired, so that no statement reads it from then on.
pub record IsOutOfUse (o : Opening) (s : ShardRecord) (p now : PassView Entry) : Type 0 where
  pub run : Run
  pub between : IsRunBetween p now run
  pub retired : mode o run s.slot ≡ modes.Retired

-- the pass has seen that the source retired, and that the target serves
abbrev pub IsGone : Run → ShardRecord → Type 0
IsGone run s = (named : List ShardRecord) × HasEntry run s (events.Retire named)

abbrev pub HasBegunToServe : Run → ShardRecord → Type 0
HasBegunToServe run t = HasEntry run t events.Serve

abbrev pub HaveServed : Run → List TargetWithSources → Type 0
HaveServed run targets = AllByRecursion (λ t. HasBegunToServe run t.0) targets

-- all that a cutover is for
pub record IsCutOver (run : Run) (sources : List ShardRecord) (targets : List TargetWithSources) : Type 0 where
  pub gone : AllByRecursion (IsGone run) sources
  pub served : HaveServed run targets

-- the slots of sources, and then those of targets
abbrev pub slots_of_both : List ShardRecord → List TargetWithSources → List ℕ
slots_of_both sources targets = map (λ s. s.slot) sources ++ map (λ t. t.0.slot) targets

-- at a run that the pass came by a target had more rows than a shard that serves may have
pub record IsOverfull (o : Opening) (most : Limits) (t : ShardRecord) (p now : PassView Entry) : Type 0 where
  pub run : Run
  pub between : IsRunBetween p now run
  pub many : most.rows < row_count (shard_rows o run t)

-- at a run that the pass came by a target had no more rows than a shard that serves may have
pub record IsWithinRows (o : Opening) (most : Limits) (t : ShardRecord) (p now : PassView Entry) : Type 0 where
  pub run : Run
  pub between : IsRunBetween p now run
  pub few : row_count (shard_rows o run t) ≤ most.rows
