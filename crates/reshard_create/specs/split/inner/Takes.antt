-- What a target takes from, in any order.
use Rattle.std.specs.Prelude.{◌≡◌, List, map, Contains}
use Rattle.std.specs.List.{AllByRecursion}
use Rattle.keyrange.specs.Ranges.{Overlap}
use Rattle.shard_run.specs.declared.ShardRecord.{ShardRecord}

-- the target's sources are those of these whose ranges overlap its own
pub record TakesFrom (sources : List ShardRecord) (target : ShardRecord) : Type 0 where
  pub own : List ShardRecord
  pub among : AllByRecursion (Contains sources) own
  pub are : target.sources ≡ map (λ s. s.slot) own
  pub all : (s : ShardRecord) → Contains sources s → Overlap s.place.range target.place.range → Contains own s
