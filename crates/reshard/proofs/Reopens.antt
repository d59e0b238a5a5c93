-- The lists of targets for the sources that aren't retired, of a workflow that is made again.
use Rattle.std.proofs.Common.{◌≡◌, ℕ, true, drop, List, map, sym, ap, ◌∙◌, subst}
use Rattle.std.specs.Prelude.{Option, Some, None, IfSome}
use Rattle.std.proofs.lemmas.Bool.{false≢true}
use Rattle.std.proofs.lemmas.List.{drop-map}
use Rattle.shard_run.specs.declared.ShardRecord.{ShardRecord}
use Rattle.reshard_create.specs.Steps.{named_for}
use Rattle.reshard_create.specs.TargetSources.{TargetWithSources, shards_of}
use Rattle.reshard.specs.inner.Workflows.{IsPrepared}
use Rattle.reshard_create.proofs.Begins.{map_twice}

module _ {S T : Type 0} (which : S → ShardRecord) (f : T → TargetWithSources) (sources : List S) (targets : List T) where
  pub prepared_rest : (retired : ℕ) (named : List (List ShardRecord)) → named ≡ map (λ s. named_for (which s) (map (λ t. (f t).0) targets)) (drop retired sources)
      → IsPrepared (map which sources) (map f targets) retired true named
  prepared_rest retired named is = record {
    before = λ e. absurd (false≢true (sym e));
    after = λ e.
        is ∙ ap (λ (l : List ShardRecord). map (λ s. named_for (which s) l) (drop retired sources)) (sym (map_twice (λ (t : TargetWithSources). t.0) f targets))
        ∙ sym (map_twice (λ (s : ShardRecord). named_for s (shards_of (map f targets))) which (drop retired sources))
        ∙ ap (map (λ (s : ShardRecord). named_for s (shards_of (map f targets)))) (sym (drop-map which retired sources));
  }

pub some_same : {X Y : Type 0} (v : X → Y) (y : Y) (P : Y → Type 0) (r : Option X) → IfSome r (λ x. v x ≡ y) → P y → IfSome r (λ x. P (v x))
some_same v y P (Some x) e is = subst P (sym e) is
some_same v y P None e is = tt
