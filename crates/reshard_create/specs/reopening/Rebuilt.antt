-- What a workflow is that is made again from its shards, and why it isn't.
use Rattle.std.specs.Prelude.{◌≡◌, ◌⊎◌, ℕ, ◌+◌, ◌≤◌, not, ◌==◌, List, [], ◌++◌, length, map, filter, replicate, Contains, IsTrue}
use Rattle.std.specs.List.{AllByRecursion, list_any}
use Rattle.vt_value.specs.declared.refusal.Refusal.TheVariants.{OutOfMemory}
use Rattle.keyrange.specs.Ranges.{Cover}
use Rattle.serving.specs.Partitions.{Seat, IsPartition, AreOf, ranges}
use Rattle.journal.specs.Views.{PassView}
use Rattle.shard_run.specs.declared.ShardRecord.{ShardRecord}
use Rattle.shard_run.specs.declared.Entry.{Entry}
use Rattle.shard_run.specs.declared.Mode.{Mode}
use Rattle.shard_run.specs.declared.Mode.TheVariants as modes
use Rattle.shard_run.specs.declared.Event.TheVariants as events
use Rattle.shard_run.specs.Runs.{Run, Opening, mode}
use Rattle.shard_law.specs.Legal.{IsOnItsSlot}
use Rattle.reshard_cutover.specs.FollowSteps.{IsRunBetween}
use Rattle.reshard_cutover.specs.declared.fault.ReshardFault.{ReshardFault}
use Rattle.reshard_cutover.specs.declared.fault.ReshardFault.TheVariants.{Refused, WrongState}
use Rattle.shard.specs.Seats.{seat_of}
use Rattle.reshard_cutover.specs.Steps.{HasEntry, has_source}
use Rattle.reshard_cutover.specs.TargetSources.{TargetWithSources, shards_of}
use Rattle.reshard_cutover.specs.Overlapping.{AreThose}
use Rattle.reshard_create.specs.split.Splits.{IsSplit, target_seats}

-- a shard, its mode, and the targets that it named as it retired
abbrev pub FoundView : Type 0
FoundView = ShardRecord × Mode × List ShardRecord

-- at a run that the pass came by the shard stood on its slot, in this mode; if it was retired, its entry names these targets
pub record IsFound (o : Opening) (p now : PassView Entry) (f : FoundView) : Type 0 where
  pub run : Run
  pub between : IsRunBetween p now run
  pub stands : IsOnItsSlot o run f.0
  pub mode : f.1 ≡ mode o run f.0.slot
  pub named : f.1 ≡ modes.Retired → HasEntry run f.0 (events.Retire f.2)

-- the shards of these seats, and the modes that a look at each found
pub record AreFound (o : Opening) (p now : PassView Entry) (at : List Seat) (found : List FoundView) : Type 0 where
  pub seats : map (λ f. seat_of f.0) found ≡ at
  pub each : AllByRecursion (IsFound o p now) found

-- How far a cutover is, by the modes of its shards: of the sources, in their order, the first are retired, the next frozen, and the others serve;
-- of the targets the first serve, and the others follow. All sources are frozen before one is retired, and retired before a target serves.
pub record IsCutoverProgress (sources targets : List Mode) (frozen retired served : ℕ) : Type 0 where
  pub held : ℕ
  pub serving : ℕ
  pub following : ℕ
  pub of_sources : sources ≡ replicate retired modes.Retired ++ (replicate held modes.Frozen ++ replicate serving modes.Serving)
  pub of_targets : targets ≡ replicate served modes.Serving ++ replicate following modes.Following
  pub all_frozen : frozen ≡ retired + held
  pub frozen_first : (retired ≡ 0) ⊎ (serving ≡ 0)
  pub retired_first : (served ≡ 0) ⊎ (held + serving ≡ 0)

-- the target takes from those of the sources that overlap it
pub record TakesThose (sources : List ShardRecord) (target : ShardRecord) : Type 0 where
  pub own : List ShardRecord
  pub those : AreThose target.place.range sources own
  pub are : target.sources ≡ map (λ s. s.slot) own

-- of the parts those that stand on none of the seats' slots
abbrev pub others : List Seat → List Seat → List Seat
others seats parts = filter (λ part. not (list_any (λ seat. seat.0 == part.0) seats)) parts

-- With the rest the ones make up the keyspace, and so do those that take their place, with at most 64 parts.
pub record MayReplace (keyspace : ℕ) (rest from into : List Seat) : Type 0 where
  pub some : from ≡ [] → ⊥
  pub home : AreOf keyspace (from ++ into)
  pub before : Cover (ranges rest ++ ranges from)
  pub after : Cover (ranges rest ++ ranges into)
  pub few : length rest + length into ≤ 64

-- a source that is retired named each of these targets that takes from it
abbrev pub NamedThose : List ShardRecord → FoundView → Type 0
NamedThose targets source = source.1 ≡ modes.Retired → AllByRecursion (λ t. IsTrue (has_source source.0.slot t) → Contains source.2 t) targets

-- The shards are the sources and the targets of one workflow, with the other parts of a partition, those that are retired
-- named the targets, and its cutover is so far.
pub record IsWorkflowAt (keyspace : ℕ) (parts from into : List Seat) (sources targets : List FoundView) (frozen retired served : ℕ) : Type 0 where
  pub replace : MayReplace keyspace (others (from ++ into) parts) from into
  pub takes : AllByRecursion (λ t. TakesThose (map (λ f. f.0) sources) t.0) targets
  pub named : AllByRecursion (NamedThose (map (λ f. f.0) targets)) sources
  pub progress : IsCutoverProgress (map (λ f. f.1) sources) (map (λ f. f.1) targets) frozen retired served

-- Sources and targets are those of these seats, each target with those of the sources that overlap it, with the other parts of this partition,
-- and the cutover is so far as the modes tell that a look at each of them found.
pub record AreMadeAgain (o : Opening) (p now : PassView Entry) (keyspace : ℕ) (parts from into : List Seat) (sources : List ShardRecord) (targets : List TargetWithSources)
    (frozen retired served : ℕ) : Type 0 where
  pub partition : IsPartition parts
  pub found_sources : List FoundView
  pub found_targets : List FoundView
  pub of_sources : AreFound o p now from found_sources
  pub of_targets : AreFound o p now into found_targets
  pub stopped : IsWorkflowAt keyspace parts from into found_sources found_targets frozen retired served
  pub same_sources : sources ≡ map (λ f. f.0) found_sources
  pub same_targets : shards_of targets ≡ map (λ f. f.0) found_targets
  pub own : AllByRecursion (λ t. AreThose t.0.place.range sources t.1) targets

-- Why no workflow is made again of the shards of these seats, if there is none yet: want of memory; or by a look at each of them they aren't
-- those of one workflow, with the other parts of some partition; or its cutover is through, so that the sources' rows may be gone; or none of its
-- sources is retired, so that it may have been given up.
pub data IsReopenRefusal (o : Opening) (p now : PassView Entry) (keyspace : ℕ) (from into : List Seat) : ReshardFault → Type 0 where
  no_memory : IsReopenRefusal o p now keyspace from into (Refused OutOfMemory)
  unlike : (parts : List Seat) (sources targets : List FoundView) → IsPartition parts → AreFound o p now from sources → AreFound o p now into targets
      → ((frozen retired served : ℕ) → IsWorkflowAt keyspace parts from into sources targets frozen retired served → ⊥)
      → IsReopenRefusal o p now keyspace from into WrongState
  through : (parts : List Seat) (sources targets : List FoundView) (frozen retired : ℕ) → IsPartition parts → AreFound o p now from sources
      → AreFound o p now into targets → IsWorkflowAt keyspace parts from into sources targets frozen retired (length targets)
      → IsReopenRefusal o p now keyspace from into WrongState
  given_up : (parts : List Seat) (sources targets : List FoundView) (frozen served : ℕ) → IsPartition parts → AreFound o p now from sources
      → AreFound o p now into targets → IsWorkflowAt keyspace parts from into sources targets frozen 0 served
      → IsReopenRefusal o p now keyspace from into WrongState

-- the targets may take the sources' place, and with the parts that stay their shards make a partition of the keyspace
pub record IsRefitted (keyspace : ℕ) (rest : List Seat) (sources : List ShardRecord) (targets : List TargetWithSources) (seats : List Seat) : Type 0 where
  pub split : IsSplit sources targets
  pub seated : seats ≡ target_seats targets
  pub next : IsPartition (rest ++ seats)
  pub home : AreOf keyspace (rest ++ seats)
