-- Targets that were found take from those of the sources that overlap them.
use Rattle.std.proofs.Common.{◌≡◌, List, [], ◌∷◌, map, sym, subst}
use Rattle.std.specs.List.{AllByRecursion}
use Rattle.shard_run.specs.declared.ShardRecord.{ShardRecord}
use Rattle.reshard_create.specs.split.inner.Takes.{TakesFrom}
use Rattle.reshard_cutover.specs.TargetSources.{TargetWithSources}
use Rattle.reshard_create.specs.reopening.inner.Snapshots.{IsRebuiltTarget}
use Rattle.reshard_create.proofs.split.Lists.{map_twice}
use Rattle.reshard_create.specs.reopening.Rebuilt.{FoundView, TakesThose}
use Rattle.reshard_create.proofs.split.Those.{among_those, all_those}

pub takes_from : (sources : List ShardRecord) (target : ShardRecord) → TakesThose sources target → TakesFrom sources target
takes_from sources target is = record {
  own = is.own;
  among = among_those target.place.range sources is.own is.those;
  are = is.are;
  all = all_those target.place.range sources is.own is.those;
}

-- ---- targets that were found, and that are made again

pub all_unmap : {X Y : Type 0} (P : Y → Type 0) (f : X → Y) (xs : List X) → AllByRecursion P (map f xs) → AllByRecursion (λ x. P (f x)) xs
all_unmap P f [] all = tt
all_unmap P f (x ∷ xs) all = (all.0, all_unmap P f xs all.1)

pub all_remap : {X Y : Type 0} (P : Y → Type 0) (f : X → Y) (xs : List X) → AllByRecursion (λ x. P (f x)) xs → AllByRecursion P (map f xs)
all_remap P f [] all = tt
all_remap P f (x ∷ xs) all = (all.0, all_remap P f xs all.1)

pub all_same : {X : Type 0} (P Q : X → Type 0) (xs : List X) → ((x : X) → P x → Q x) → AllByRecursion P xs → AllByRecursion Q xs
all_same P Q [] f all = tt
all_same P Q (x ∷ xs) f all = (f x all.0, all_same P Q xs f all.1)

module _ {F : Type 0} (view : F → FoundView) (ss ts : List F) where
  abbrev first : F → ShardRecord
  first f = (view f).0

  pub takes_seen : AllByRecursion (λ t. TakesThose (map (λ f. f.0) (map view ss)) t.0) (map view ts) → AllByRecursion (TakesThose (map first ss)) (map first ts)
  takes_seen all =
      subst (λ (l : List ShardRecord). AllByRecursion (TakesThose l) (map first ts)) (map_twice (λ (f : FoundView). f.0) view ss)
      (all_remap (TakesThose (map (λ f. f.0) (map view ss))) first ts
      (all_unmap (λ (t : FoundView). TakesThose (map (λ f. f.0) (map view ss)) t.0) view ts all))

  pub takes_again : {T : Type 0} (taking : T → TargetWithSources) (made : List T) → AllByRecursion (IsRebuiltTarget (map first ss)) (map taking made)
      → map (λ t. (taking t).0) made ≡ map first ts → AllByRecursion (λ t. TakesThose (map (λ f. f.0) (map view ss)) t.0) (map view ts)
  takes_again taking made all same =
      let own = all_remap (TakesThose (map first ss)) (λ t. (taking t).0) made
      (all_same (λ t. IsRebuiltTarget (map first ss) (taking t)) (λ t. TakesThose (map first ss) (taking t).0) made
      (λ t h. record { own = (taking t).1; those = h.those; are = h.are }) (all_unmap (IsRebuiltTarget (map first ss)) taking made all)) in
      let seen = subst (AllByRecursion (TakesThose (map first ss))) same own in
      subst (λ (l : List ShardRecord). AllByRecursion (λ t. TakesThose l t.0) (map view ts)) (sym (map_twice (λ (f : FoundView). f.0) view ss))
      (all_remap (λ (t : FoundView). TakesThose (map first ss) t.0) view ts (all_unmap (TakesThose (map first ss)) first ts seen))
