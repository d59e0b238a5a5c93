-- Those of the sources that overlap a range, one after the other.
use Rattle.std.specs.Prelude.{◌≡◌, ◌++◌, ◌∷◌, [], List}
use Rattle.keyrange.specs.declared.KeyRange.{KeyRange}
use Rattle.keyrange.specs.Ranges.{Overlap}
use Rattle.shard_run.specs.declared.ShardRecord as S

-- a list of those that overlap the range grows by the shard if it does
pub data HasGrown (range : KeyRange) (s : S.ShardRecord) (old new : List S.ShardRecord) : Type 0 where
  added : Overlap s.place.range range → new ≡ old ++ s ∷ [] → HasGrown range s old new
  left : (Overlap s.place.range range → ⊥) → new ≡ old → HasGrown range s old new
