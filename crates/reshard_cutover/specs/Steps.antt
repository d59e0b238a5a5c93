-- What the steps of a cutover leave in what the controller's pass has seen. A target may have several sources.
use Rattle.std.specs.Prelude.{◌≡◌, ℕ, Bool, ◌==◌, List, filter, map, length, AllPairs, Contains, IsTrue}
use Rattle.std.specs.List.{AllByRecursion, list_any}
use Rattle.shard_run.specs.declared.ShardRecord.{ShardRecord}
use Rattle.shard_run.specs.declared.Event.{Event}
use Rattle.shard_run.specs.declared.Event.TheVariants.{Retire}
use Rattle.shard_run.specs.Runs.{Run, stored_on}
use Rattle.shard_contents.specs.Legal.{TogetherHold, PlacesOverlap}

-- a source, and how many entries it has stored
abbrev pub Looked : Type 0
Looked = ShardRecord × ℕ

-- the target has the shard on the slot as a source
abbrev pub has_source : ℕ → ShardRecord → Bool
has_source slot target = list_any (λ n. n == slot) target.sources

-- those of the targets that have the shard as a source
abbrev pub named_for : ShardRecord → List ShardRecord → List ShardRecord
named_for s targets = filter (has_source s.slot) targets

-- the run has this entry of the shard
abbrev pub HasEntry : Run → ShardRecord → Event → Type 0
HasEntry run s event = Contains run (record { shard = s; event = event })

-- the source is retired in the run for these targets, and has stored so many entries
pub record IsRetired (run : Run) (source : Looked) (targets : List ShardRecord) : Type 0 where
  pub retired : HasEntry run source.0 (Retire targets)
  pub stored : source.1 ≡ length (stored_on source.0.slot run)

-- of these sources those of the target are retired, and their entries name it
abbrev pub AreRetired : Run → ShardRecord → List Looked → Type 0
AreRetired run target sources =
    AllByRecursion (λ s. IsTrue (has_source s.0.slot target) → (targets : List ShardRecord) × IsRetired run s targets × Contains targets target) sources

-- the target's sources are some of these, which together hold its place
pub record IsTargetOf (sources : List ShardRecord) (target : ShardRecord) : Type 0 where
  pub own : List ShardRecord
  pub among : AllByRecursion (Contains sources) own
  pub are : target.sources ≡ map (λ s. s.slot) own
  pub inside : TogetherHold (map (λ s. s.place) own) target.place

-- targets that may take a shard's place: they have it as a source, don't overlap, and together hold its place
pub record FitTargets (s : ShardRecord) (targets : List ShardRecord) : Type 0 where
  pub of_source : AllByRecursion (λ t. Contains t.sources s.slot) targets
  pub apart : AllPairs (λ a b. PlacesOverlap a b → ⊥) targets
  pub whole : TogetherHold (map (λ t. t.place) targets) s.place
