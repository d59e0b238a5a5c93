-- Sources serve again, one after the other.
use Rattle.std.proofs.Common.{◌≡◌, ℕ, ◌+◌, ◌<◌, ◌≤◌, List, [], ◌∷◌, ◌++◌, length, map, take, drop, get_or, refl, sym, ap, ◌∙◌, subst, true}
use Rattle.std.specs.List.{AllByRecursion}
use Rattle.std.proofs.lemmas.Bool.{eq-eqb}
use Rattle.std.proofs.lemmas.List.{take_more, map-append, take-append-drop}
use Rattle.journal.specs.Views.{PassView}
use Rattle.journal.proofs.Fronts.{prefix_trans, prefix_self}
use Rattle.shard_run.specs.declared.ShardRecord.{ShardRecord}
use Rattle.shard_run.specs.declared.Entry.{Entry}
use Rattle.shard_run.specs.declared.Event.{Event}
use Rattle.shard_run.specs.declared.Mode.{Mode}
use Rattle.shard_run.specs.declared.Mode.TheVariants.{Serving, Retired}
use Rattle.shard_run.specs.Runs.{Opening, Run, shard_rows, mode, mode_after, is_on}
use Rattle.shard_run.specs.Openings.{row_count}
use Rattle.shard_contents.specs.Limits.{Limits}
use Rattle.reshard_cutover.specs.TargetSources.{TargetWithSources}
use Rattle.shard_contents.proofs.Runs.{mode-on}
use Rattle.shard_contents.proofs.Lists.{all-weaker}
use Rattle.shard_contents.specs.Entries.{ShardView, HasAppended}
use Rattle.follow.specs.Modes.{HasChangedMode}
use Rattle.follow.specs.Steps.{IsOnward}
use Rattle.follow.specs.Turns.{HasLookedAt, EndsInLook, IsCutShort}
use Rattle.follow.proofs.Turns.{unlooked, looked_at, looked_then, appended_since}
use Rattle.reshard_cutover.specs.Looks.{HasLookedOnlyAt, IsServingAgain, IsOutOfUse, IsWithinRows}
use Rattle.reshard_cutover.proofs.Retiring.{all_map_next}
use Rattle.reshard_cutover.proofs.Onward.{onward_trans}

-- the mode after an entry of a shard
pub mode_now : (o : Opening) (v : ShardView) (ev : Event) (p now : PassView Entry) → HasAppended o v ev p now → (which : ShardRecord) → v.shard ≡ which
    → (m : Mode) → ((before : Mode) → mode_after before ev ≡ m) → mode o now.seen which.slot ≡ m
mode_now o v ev p now is which same m after =
    let e : Entry = record { shard = v.shard; event = ev } in
    let here : is_on v.shard.slot e ≡ true = eq-eqb v.shard.slot v.shard.slot refl in
    ap (λ (s : ShardRecord). mode o now.seen s.slot) (sym same) ∙ ap (λ (r : Run). mode o r v.shard.slot) is.seen ∙ mode-on o is.before e v.shard.slot here
    ∙ after (mode o is.before v.shard.slot)

pub again_later : (o : Opening) (s : ShardRecord) (p q now : PassView Entry) → IsOnward o q now → IsServingAgain o s p q → IsServingAgain o s p now
again_later o s p q now on is = record {
  run = is.run;
  between = record { since = is.between.since; until = prefix_trans is.run q.seen now.seen is.between.until on.later };
  serving = is.serving;
}

module _ {S : Type 0} (which : S → ShardRecord) (o : Opening) (p q now : PassView Entry) (sources : List S) (n : ℕ) (s : S) where
  pub again_next : n < length sources → s ≡ get_or sources n s → IsOnward o p q → IsOnward o q now → mode o now.seen (which s).slot ≡ Serving
      → AllByRecursion (λ s. IsServingAgain o s p q) (map which (take n sources))
      → AllByRecursion (λ s. IsServingAgain o s p now) (map which (take (n + 1) sources))
  again_next there is before on serving so_far =
      all_map_next (λ s. IsServingAgain o s p now) which sources n s there is
      (all-weaker (λ s. IsServingAgain o s p q) (λ s. IsServingAgain o s p now) (λ s h. again_later o s p q now on h) (map which (take n sources)) so_far)
      (record {
        run = now.seen;
        between = record { since = (onward_trans o p q now before on).later; until = prefix_self now.seen };
        serving = serving;
      })

out_later : (o : Opening) (s : ShardRecord) (p q now : PassView Entry) → IsOnward o q now → IsOutOfUse o s p q → IsOutOfUse o s p now
out_later o s p q now on is = record {
  run = is.run;
  between = record { since = is.between.since; until = prefix_trans is.run q.seen now.seen is.between.until on.later };
  retired = is.retired;
}

module _ {S : Type 0} (which : S → ShardRecord) (o : Opening) (p q now : PassView Entry) (sources : List S) (n : ℕ) (s : S) where
  pub out_next : n < length sources → s ≡ get_or sources n s → IsOnward o p q → IsOnward o q now → mode o now.seen (which s).slot ≡ Retired
      → AllByRecursion (λ s. IsOutOfUse o s p q) (map which (take n sources))
      → AllByRecursion (λ s. IsOutOfUse o s p now) (map which (take (n + 1) sources))
  out_next there is before on retired so_far =
      all_map_next (λ s. IsOutOfUse o s p now) which sources n s there is
      (all-weaker (λ s. IsOutOfUse o s p q) (λ s. IsOutOfUse o s p now) (λ s h. out_later o s p q now on h) (map which (take n sources)) so_far)
      (record {
        run = now.seen;
        between = record { since = (onward_trans o p q now before on).later; until = prefix_self now.seen };
        retired = retired;
      })

-- ---- looks at one shard alone

pub not_looked : (slot : ℕ) (p now : PassView Entry) → now ≡ p → HasLookedOnlyAt slot p now
not_looked slot p now same = record { looks = []; alone = tt; looked = unlooked p now same }

pub looked_once : (slot here : ℕ) (p now : PassView Entry) → here ≡ slot → HasLookedAt (here ∷ []) p now → HasLookedOnlyAt slot p now
looked_once slot here p now same is = record { looks = here ∷ []; alone = (same, tt); looked = is }

pub look_alone : (slot here : ℕ) (p now : PassView Entry) (run : Run) (n : ℕ) → here ≡ slot
    → now ≡ record p { seen = run; looks = p.looks ++ (here, n) ∷ [] } → HasLookedOnlyAt slot p now
look_alone slot here p now run n same is = looked_once slot here p now same (looked_at p now here run n is)

-- a look at each so far, and at one more
module _ {S : Type 0} (slot : S → ℕ) (shards : List S) (n : ℕ) (s : S) (there : n < length shards) (is : s ≡ get_or shards n s) (p q now : PassView Entry) where
  pub look_next : HasLookedAt (map slot (take n shards)) p q → HasLookedAt (slot s ∷ []) q now → HasLookedAt (map slot (take (n + 1) shards)) p now
  look_next before at =
      subst (λ (l : List S). HasLookedAt (map slot l) p now) (sym (take_more shards n s there ∙ ap (λ (x : S). take n shards ++ x ∷ []) (sym is)))
      (subst (λ (l : List ℕ). HasLookedAt l p now) (sym (map-append slot (take n shards) (s ∷ [])))
      (looked_then (map slot (take n shards)) (slot s ∷ []) p q now before at))

-- of the shards of such
module _ {S X : Type 0} (which : S → X) (slot : X → ℕ) (shards : List S) (n : ℕ) (s : S) (there : n < length shards) (is : s ≡ get_or shards n s)
    (p q now : PassView Entry) where
  pub look_next_of : HasLookedAt (map slot (map which (take n shards))) p q → HasLookedAt (slot (which s) ∷ []) q now
      → HasLookedAt (map slot (map which (take (n + 1) shards))) p now
  look_next_of before at =
      subst (λ (l : List S). HasLookedAt (map slot (map which l)) p now) (sym (take_more shards n s there ∙ ap (λ (x : S). take n shards ++ x ∷ []) (sym is)))
      (subst (λ (l : List X). HasLookedAt (map slot l) p now) (sym (map-append which (take n shards) (s ∷ [])))
      (subst (λ (l : List ℕ). HasLookedAt l p now) (sym (map-append slot (map which (take n shards)) (which s ∷ [])))
      (looked_then (map slot (map which (take n shards))) (slot (which s) ∷ []) p q now before at)))

  -- at the first ones, as far as the pass came
  pub looked_along : HasLookedAt (map slot (map which (take n shards))) p q → HasLookedAt (slot (which s) ∷ []) q now → EndsInLook now
      → IsCutShort (map slot (map which shards)) p now
  looked_along before at ends =
      let first = take (n + 1) shards in
      let rest = drop (n + 1) shards in
      record {
        first = map slot (map which first);
        part = (
          map slot (map which rest),
          sym (map-append slot (map which first) (map which rest))
              ∙ ap (map slot) (sym (map-append which first rest) ∙ ap (map which) (take-append-drop (n + 1) shards)),
        );
        looked = look_next_of before at;
        ends = ends;
      }

-- the two looks before a change of mode
pub change_looks : (o : Opening) (slot : ℕ) (v : ShardView) (ev : Event) (p now : PassView Entry) → v.shard.slot ≡ slot → HasChangedMode o v ev p now
    → HasLookedAt (slot ∷ slot ∷ []) p now
change_looks o slot v ev p now same is =
    let q = is.twice.first in
    let r = is.looked in
    let s = v.shard.slot in
    subst (λ (n : ℕ). HasLookedAt (n ∷ n ∷ []) p now) same
    (looked_then (s ∷ []) (s ∷ []) p q now (looked_at p q s q.seen (length q.seen) is.twice.once.pass)
    (looked_then (s ∷ []) [] q r now (looked_at q r s r.seen (length r.seen) is.twice.again.pass) (appended_since r now now.seen is.appended.pass)))

-- ---- rows within the limit

module _ {T : Type 0} (f : T → TargetWithSources) (o : Opening) (most : Limits) (p q now : PassView Entry) (targets : List T) (n : ℕ) (t : T) where
  pub within_next : n < length targets → t ≡ get_or targets n t → IsOnward o p q → IsOnward o q now → row_count (shard_rows o now.seen (f t).0) ≤ most.rows
      → AllByRecursion (λ t. IsWithinRows o most t.0 p q) (map f (take n targets))
      → AllByRecursion (λ t. IsWithinRows o most t.0 p now) (map f (take (n + 1) targets))
  within_next there is before on few so_far =
      all_map_next (λ t. IsWithinRows o most t.0 p now) f targets n t there is
      (all-weaker (λ t. IsWithinRows o most t.0 p q) (λ t. IsWithinRows o most t.0 p now)
      (λ t h. record {
        run = h.run;
        between = record { since = h.between.since; until = prefix_trans h.run q.seen now.seen h.between.until on.later };
        few = h.few;
      }) (map f (take n targets)) so_far)
      (record {
        run = now.seen;
        between = record { since = (onward_trans o p q now before on).later; until = prefix_self now.seen };
        few = few;
      })
