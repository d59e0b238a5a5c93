-- Which sources a target takes from: those that overlap it.
use Rattle.std.specs.Prelude.{◌≡◌, ◌⊎◌, List, [], ◌∷◌, Contains}
use Rattle.std.specs.List.{AllByRecursion}
use Rattle.keyrange.specs.declared.KeyRange.{KeyRange}
use Rattle.keyrange.specs.Ranges.{Overlap}
use Rattle.shard_run.specs.declared.ShardRecord.{ShardRecord}
use Rattle.reshard_cutover.specs.TargetSources.{TargetWithSources}

-- of these shards the ones whose ranges overlap this one, in their order
abbrev pub AreThose : KeyRange → List ShardRecord → List ShardRecord → Type 0
AreThose range [] own = own ≡ []
AreThose range (s ∷ shards) own =
    (Overlap s.place.range range × (rest : List ShardRecord) × (own ≡ s ∷ rest) × AreThose range shards rest)
    ⊎ ((Overlap s.place.range range → ⊥) × AreThose range shards own)

-- each target takes from sources of it
abbrev pub TakeFromOwn : List TargetWithSources → Type 0
TakeFromOwn targets = AllByRecursion (λ t. AllByRecursion (λ s. Contains t.0.sources s.slot) t.1) targets
