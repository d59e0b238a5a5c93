-- What `create` finds.
use Rattle.std.specs.Prelude.{◌≡◌, ℕ, Bool, ◌+◌, ◌≤◌, ◌++◌, List, length, map, Contains, count_by}
use Rattle.std.specs.List.{AllByRecursion}
use Rattle.keyrange.specs.declared.KeyRange.{KeyRange}
use Rattle.keyrange.specs.Ranges.{Cover}
use Rattle.keyrange.specs.Names.{IsNamed}
use Rattle.serving.specs.Partitions.{Seat, IsPartition, AreOf}
use Rattle.shard.specs.Place.{Place}
use Rattle.journal.specs.Views.{PassView}
use Rattle.shard_run.specs.declared.ShardRecord as S
use Rattle.shard_run.specs.declared.Entry.{Entry}
use Rattle.shard_run.specs.declared.Mode.{Mode}
use Rattle.shard_run.specs.Runs.{Run, Opening, IsShardOf, mode}
use Rattle.reshard_create.specs.split.inner.Takes.{TakesFrom}
use Rattle.reshard_create.specs.Begun.{WasSeen, IsNotFollowing, TakesItsOwn}
use Rattle.reshard_create.specs.Looked.{slots_of}
use Rattle.reshard_cutover.specs.Turns.{HasLookedAt}
use Rattle.shard.specs.Seats.{seat_of}
use Rattle.reshard_cutover.specs.TargetSources.{TargetWithSources}

-- of these seats the ones whose ranges are named, and the rest
pub record AreNamed (ranges : List KeyRange) (seats taken rest : List Seat) : Type 0 where
  pub named : AllByRecursion (λ s. Contains ranges s.1) taken
  pub not_named : AllByRecursion (λ s. Contains ranges s.1 → ⊥) rest
  pub all : (p : Seat → Bool) → count_by p seats ≡ count_by p taken + count_by p rest

-- the parts of a partition of the keyspace, told apart by the ranges that are named
pub record AreToldApart (keyspace : ℕ) (ranges : List KeyRange) (seats taken rest : List Seat) : Type 0 where
  pub partition : IsPartition seats
  pub home : AreOf keyspace seats
  pub are : AreNamed ranges seats taken rest
  pub taken_among : AllByRecursion (Contains seats) taken
  pub rest_among : AllByRecursion (Contains seats) rest

-- after the run the shard of the slot and place is this one of the run, and its mode such
pub record IsSighted (o : Opening) (run : Run) (slot : ℕ) (place : Place) (Such : Mode → Type 0) (s : S.ShardRecord) : Type 0 where
  pub on : s.slot ≡ slot
  pub at : s.place ≡ place
  pub of_run : IsShardOf o run s
  pub such : Such (mode o run s.slot)

-- the shard of the seat, as it was seen
pub record IsSeenAt (o : Opening) (p now : PassView Entry) (keyspace : ℕ) (Such : Mode → Type 0) (seat : Seat) (s : S.ShardRecord) : Type 0 where
  pub slot : s.slot ≡ seat.0
  pub place : s.place ≡ record { keyspace = keyspace; range = seat.1 }
  pub seen : WasSeen o p now Such s

abbrev pub HasSeen : Opening → PassView Entry → PassView Entry → ℕ → (Mode → Type 0) → Seat → Type 0
HasSeen o p now keyspace Such seat = (s : S.ShardRecord) × IsSeenAt o p now keyspace Such seat s

-- the pass looked once at the shard of each of these parts, in their order, and at no other, and each was found there and didn't follow
pub record HasLookedAtAll (o : Opening) (p now : PassView Entry) (keyspace : ℕ) (parts : List Seat) : Type 0 where
  pub seen : AllByRecursion (HasSeen o p now keyspace IsNotFollowing) parts
  pub looked : HasLookedAt (slots_of parts) p now

-- it looked so at the first of them, as far as it came
pub record HasLookedAlongParts (o : Opening) (p now : PassView Entry) (keyspace : ℕ) (parts : List Seat) : Type 0 where
  pub first : List Seat
  pub others : List Seat
  pub are : first ++ others ≡ parts
  pub looked : HasLookedAtAll o p now keyspace first

-- the target is in the keyspace, and takes from those of the sources that overlap it
pub record IsMadeOf (sources : List S.ShardRecord) (keyspace : ℕ) (t : TargetWithSources) : Type 0 where
  pub home : t.0.place.keyspace ≡ keyspace
  pub takes : TakesFrom sources t.0
  pub own : AllByRecursion (λ s. Contains t.0.sources s.slot) t.1
  pub exactly : TakesItsOwn sources t

-- and has this range
pub record IsMade (sources : List S.ShardRecord) (keyspace : ℕ) (range : KeyRange) (t : TargetWithSources) : Type 0 where
  pub at : t.0.place.range ≡ range
  pub is : IsMadeOf sources keyspace t

-- Of the parts of a partition those of the named ranges, whose shards are the sources; targets of the other ranges may stand with the rest.
pub record IsSurvey (keyspace : ℕ) (from into : List KeyRange) (parts : List Seat) (sources : List S.ShardRecord) (rest : List Seat) : Type 0 where
  pub taken : List Seat
  pub named : AreNamed from parts taken rest
  pub among : AllByRecursion (Contains parts) rest
  pub seats : map seat_of sources ≡ taken
  pub home : AllByRecursion (λ s. s.place.keyspace ≡ keyspace) sources
  pub ranged : AllByRecursion (λ s. IsNamed s.place.range) sources
  pub count : length taken ≡ length from
  pub cover : Cover (map (λ s. s.1) rest ++ into)
  pub few : length rest + length into ≤ 64
