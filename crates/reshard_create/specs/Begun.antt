-- What a workflow begins with, and why it isn't begun.
use Rattle.std.specs.Prelude.{◌≡◌, ℕ, ◌<◌, ◌+◌, ◌++◌, [], ◌∷◌, List, length, map, Contains, IsPermutation, IsSorted}
use Rattle.std.specs.List.{AllByRecursion}
use Rattle.keyrange.specs.declared.KeyRange.{KeyRange}
use Rattle.serving.specs.Partitions.{IsPartition}
use Rattle.journal.specs.Views.{PassView}
use Rattle.vt_value.specs.declared.refusal.Refusal.TheVariants.{OutOfMemory}
use Rattle.shard_run.specs.declared.ShardRecord.{ShardRecord}
use Rattle.shard_run.specs.declared.Entry.{Entry}
use Rattle.shard_run.specs.declared.Mode.{Mode}
use Rattle.shard_run.specs.declared.Mode.TheVariants as modes
use Rattle.shard_run.specs.Runs.{Run, Opening, IsShardOf, mode}
use Rattle.shard.specs.Seats.{seat_of}
use Rattle.reshard_cutover.specs.FollowSteps.{IsRunBetween}
use Rattle.reshard_cutover.specs.declared.fault.ReshardFault.{ReshardFault}
use Rattle.reshard_cutover.specs.declared.fault.ReshardFault.TheVariants.{Refused, Gap, FewSlots, WrongSource}
use Rattle.reshard_cutover.specs.declared.fault.ReshardFault.TheVariants as faults
use Rattle.reshard_create.specs.split.Choices.{DoNotOverlap, HoldTheSame, begin_cmp}
use Rattle.reshard_cutover.specs.Overlapping.{AreThose}
use Rattle.reshard_cutover.specs.TargetSources.{TargetWithSources}

-- at a run that the pass came by this was a shard of the run, whose mode was such
pub record WasSeen (o : Opening) (p now : PassView Entry) (Such : Mode → Type 0) (s : ShardRecord) : Type 0 where
  pub run : Run
  pub between : IsRunBetween p now run
  pub of_run : IsShardOf o run s
  pub such : Such (mode o run s.slot)

-- it serves, and isn't frozen
abbrev pub IsServing : Mode → Type 0
IsServing m = m ≡ modes.Serving

-- what a part of a partition is: it doesn't follow
abbrev pub IsNotFollowing : Mode → Type 0
IsNotFollowing m = m ≡ modes.Following → ⊥

-- it is frozen or retired
abbrev pub IsAway : Mode → Type 0
IsAway m = IsNotFollowing m × (IsServing m → ⊥)

-- the last that the pass did was a look at the shard on this slot
abbrev pub EndsInLookAt : ℕ → PassView Entry → Type 0
EndsInLookAt slot now = (before : List (ℕ × ℕ)) × (now.looks ≡ before ++ (slot, length now.seen) ∷ [])

-- Nothing stands against the sources: they are shards of the keyspace, one for each range that was named, and at least one. No two of the ranges
-- overlap, so none was named twice. At a look each served, and wasn't frozen.
pub record AreSources (o : Opening) (p now : PassView Entry) (keyspace : ℕ) (from : List KeyRange) (sources : List ShardRecord) : Type 0 where
  pub some : from ≡ [] → ⊥
  pub named : IsPermutation from (map (λ s. s.place.range) sources)
  pub apart : DoNotOverlap from
  pub here : AllByRecursion (λ s. s.place.keyspace ≡ keyspace) sources
  pub served : AllByRecursion (WasSeen o p now IsServing) sources

-- The parts of a partition of the keyspace: those whose ranges are named, and the rest. Each is a shard that was found in this pass, and didn't
-- follow.
pub record ArePartsOf (o : Opening) (p now : PassView Entry) (keyspace : ℕ) (from : List KeyRange) (taken rest : List ShardRecord) : Type 0 where
  pub partition : IsPartition (map seat_of (taken ++ rest))
  pub here : AllByRecursion (λ s. s.place.keyspace ≡ keyspace) (taken ++ rest)
  pub found : AllByRecursion (WasSeen o p now IsNotFollowing) (taken ++ rest)
  pub named : AllByRecursion (λ s. Contains from s.place.range) taken
  pub not_named : AllByRecursion (λ s. Contains from s.place.range → ⊥) rest

-- the target takes from exactly those of the sources whose ranges overlap its own, in their order, and there are some
pub record TakesItsOwn (sources : List ShardRecord) (t : TargetWithSources) : Type 0 where
  pub are : t.0.sources ≡ map (λ s. s.slot) t.1
  pub those : AreThose t.0.place.range sources t.1
  pub some : t.1 ≡ [] → ⊥

-- a target takes from the source
abbrev pub IsTakenFrom : List TargetWithSources → ShardRecord → Type 0
IsTakenFrom targets s = (t : TargetWithSources) × Contains targets t × Contains t.1 s

-- What a workflow begins with: its sources, and targets of the other ranges, which hold the same ids and don't overlap. Each target takes from the
-- sources that overlap it, and each source is taken from. Both stand in the order of their begins.
pub record HasBegun (o : Opening) (p now : PassView Entry) (sources : List ShardRecord) (targets : List TargetWithSources) (keyspace : ℕ) (from into : List KeyRange) : Type 0 where
  pub are : AreSources o p now keyspace from sources
  pub ranges : IsPermutation into (map (λ t. t.0.place.range) targets)
  pub home : AllByRecursion (λ t. t.0.place.keyspace ≡ keyspace) targets
  pub apart : DoNotOverlap into
  pub same : HoldTheSame into from
  pub takes : AllByRecursion (TakesItsOwn sources) targets
  pub taken : AllByRecursion (IsTakenFrom targets) sources
  pub sources_rise : IsSorted begin_cmp (map (λ s. s.place.range) sources)
  pub targets_rise : IsSorted begin_cmp (map (λ t. t.0.place.range) targets)

-- Why a workflow isn't begun that may be. A shard that is away was looked at last. The causes are judged in this order: a source, an overlap, what the targets hold, and last their number:
-- too few slots are free, or the partition would have more parts than there are slots.
pub data IsCreateRefusal (o : Opening) (p now : PassView Entry) (keyspace free : ℕ) (from into : List KeyRange) : ReshardFault → Type 0 where
  no_memory : IsCreateRefusal o p now keyspace free from into (Refused OutOfMemory)
  none_named : from ≡ [] → IsCreateRefusal o p now keyspace free from into WrongSource
  not_there : (taken rest : List ShardRecord) → ArePartsOf o p now keyspace from taken rest → (length taken ≡ length from → ⊥)
      → IsCreateRefusal o p now keyspace free from into WrongSource
  away : (s : ShardRecord) → s.place.keyspace ≡ keyspace → Contains from s.place.range → WasSeen o p now IsAway s → EndsInLookAt s.slot now
      → IsCreateRefusal o p now keyspace free from into WrongSource
  overlap : (sources : List ShardRecord) → AreSources o p now keyspace from sources → (DoNotOverlap into → ⊥) → IsCreateRefusal o p now keyspace free from into faults.Overlap
  gap : (sources : List ShardRecord) → AreSources o p now keyspace from sources → DoNotOverlap into → (HoldTheSame into from → ⊥)
      → IsCreateRefusal o p now keyspace free from into Gap
  few : (sources : List ShardRecord) → AreSources o p now keyspace from sources → DoNotOverlap into → HoldTheSame into from → free < length into
      → IsCreateRefusal o p now keyspace free from into FewSlots
  many : (sources rest : List ShardRecord) → AreSources o p now keyspace from sources → ArePartsOf o p now keyspace from sources rest → DoNotOverlap into
      → HoldTheSame into from → 64 < length rest + length into → IsCreateRefusal o p now keyspace free from into FewSlots
