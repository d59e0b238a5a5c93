-- The ranges that are served in the midst of a cutover.
use Rattle.std.proofs.Common.{◌≡◌, ℕ, List, [], ◌∷◌, ◌++◌, map, take, drop, sym, ap, ap₂, subst, ◌∙◌}
use Rattle.std.specs.List.{AllByRecursion}
use Rattle.std.proofs.lemmas.List.{take-map, drop-map}
use Rattle.keyrange.specs.declared.KeyRange.{KeyRange}
use Rattle.serving.specs.Partitions.{Seat, IsPartition, AreOf, ranges}
use Rattle.shard_run.specs.declared.ShardRecord.{ShardRecord}
use Rattle.reshard_create.specs.TargetSources.{TargetWithSources}
use Rattle.reshard_create.specs.Splits.{target_seats}
use Rattle.reshard_create.proofs.Begins.{map_twice}
use Rattle.reshard.specs.declared.workflow.Stage.TheVariants as stages
use Rattle.reshard.specs.Workflows.{WorkflowView}
use Rattle.reshard.specs.Served.{AreServed}

first_half : {X : Type 0} (P : X → Type 0) (xs ys : List X) → AllByRecursion P (xs ++ ys) → AllByRecursion P xs
first_half P [] ys a = tt
first_half P (x ∷ xs) ys a = (a.0, first_half P xs ys a.1)

module _ {S T : Type 0} (which : S → ShardRecord) (taking : T → TargetWithSources) (ss : List S) (ts : List T) where
  unretired : (n : ℕ) → map (λ s. (which s).place.range) (drop n ss) ≡ map (λ (s : ShardRecord). s.place.range) (drop n (map which ss))
  unretired n =
      sym (map_twice (λ (s : ShardRecord). s.place.range) which (drop n ss)) ∙ ap (map (λ (s : ShardRecord). s.place.range)) (sym (drop-map which n ss))

  serving : (n : ℕ) → map (λ t. (taking t).0.place.range) (take n ts) ≡ map (λ (t : TargetWithSources). t.0.place.range) (take n (map taking ts))
  serving n =
      sym (map_twice (λ (t : TargetWithSources). t.0.place.range) taking (take n ts)) ∙ ap (map (λ (t : TargetWithSources). t.0.place.range)) (sym (take-map taking n ts))

  pub served : (w : WorkflowView) (rest seats : List Seat) (told : List KeyRange) → map which ss ≡ w.sources → map taking ts ≡ w.targets
      → seats ≡ target_seats w.targets → ((w.stage ≡ stages.None → ⊥) → IsPartition (rest ++ seats)) → AreOf w.keyspace (rest ++ seats)
      → told ≡ ranges rest ++ (map (λ s. (which s).place.range) (drop w.retired ss) ++ map (λ t. (taking t).0.place.range) (take w.served ts))
      → AreServed w told
  served w rest seats told same_sources same_targets seated next home is = record {
    rest = rest;
    home = first_half (λ (s : Seat). s.2 ≡ w.keyspace) rest seats home;
    next = λ begun. subst (λ (l : List Seat). IsPartition (rest ++ l)) seated (next begun);
    are =
        is
        ∙ ap₂ (λ (a b : List KeyRange). ranges rest ++ (a ++ b))
        (unretired w.retired ∙ ap (λ (l : List ShardRecord). map (λ (s : ShardRecord). s.place.range) (drop w.retired l)) same_sources)
        (serving w.served ∙ ap (λ (l : List TargetWithSources). map (λ (t : TargetWithSources). t.0.place.range) (take w.served l)) same_targets);
  }
