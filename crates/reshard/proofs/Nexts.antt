-- The steps of a cutover: which source or target is next, and what earlier steps leave.
use Rattle.std.proofs.Common.{◌≡◌, ℕ, zero, suc, ◌+◌, ◌^◌, ◌<◌, ◌≤◌, true, List, [], ◌∷◌, length, map, drop, get_or, Some, sym, ap, ◌∙◌, subst, arith}
use Rattle.std.specs.Prelude.{Contains, slice_get}
use Rattle.std.specs.List.{AllByRecursion}
use Rattle.std.proofs.lemmas.Bool.{false≢true}
use Rattle.std.proofs.lemmas.Option.{slice_get-get_or}
use mathlib.Core.List.{IsPrefix}
use Rattle.journal.specs.Views.{PassView}
use Rattle.journal.proofs.Fronts.{prefix_trans, prefix_self}
use Rattle.shard_run.specs.declared.ShardRecord.{ShardRecord}
use Rattle.shard_run.specs.declared.Entry.{Entry}
use Rattle.shard_run.specs.Runs.{Opening, Run, entries_on}
use Rattle.std.proofs.lemmas.List.{length-map}
use Rattle.reshard_create.specs.Limits.{Limits}
use Rattle.reshard_create.specs.FollowSteps.{IsOnward, IsRunBetween}
use Rattle.reshard_create.specs.ReshardFault.{ReshardFault}
use Rattle.reshard_create.specs.Steps.{named_for}
use Rattle.reshard_create.specs.TargetSources.{TargetWithSources, shards_of}
use Rattle.reshard.specs.inner.Workflows.{IsPrepared}
use Rattle.reshard_create.specs.FirstMoves.{IsMoveRefusal}
use Rattle.reshard_create.specs.FirstMoves as first_moves
use Rattle.reshard.specs.Cutover.{IsSwitchRefusal, no_memory, no_room, stuck, overfull, HasNoRoom}
use Rattle.reshard_create.specs.Looks.{IsServingAgain}
use Rattle.reshard_create.proofs.Begins.{map_twice}
use Rattle.reshard_create.proofs.Retiring.{map_at}

-- ---- the memory of a cutover

module _ {S T : Type 0} (which : S → ShardRecord) (f : T → TargetWithSources) (sources : List S) (targets : List T) where
  pub lists_first : (retired : ℕ) (named : List (List ShardRecord)) → retired ≡ 0 → named ≡ map (λ s. named_for (which s) (map (λ t. (f t).0) targets)) sources
      → named ≡ map (λ s. named_for s (shards_of (map f targets))) (drop retired (map which sources))
  lists_first retired named none is =
      is ∙ ap (λ (l : List ShardRecord). map (λ s. named_for (which s) l) sources) (sym (map_twice (λ (t : TargetWithSources). t.0) f targets))
      ∙ sym (map_twice (λ (s : ShardRecord). named_for s (shards_of (map f targets))) which sources)
      ∙ ap (λ (n : ℕ). map (λ (s : ShardRecord). named_for s (shards_of (map f targets))) (drop n (map which sources))) (sym none)

  pub prepared_now : (retired : ℕ) (named : List (List ShardRecord)) → retired ≡ 0 → named ≡ map (λ s. named_for (which s) (map (λ t. (f t).0) targets)) sources
      → IsPrepared (map which sources) (map f targets) retired true named
  prepared_now retired named none is = record {
    before = λ e. absurd (false≢true (sym e));
    after = λ e. lists_first retired named none is;
  }

-- ---- the next of a list

drop_next : {X : Type 0} (xs : List X) (i : ℕ) (x : X) → i < length xs → x ≡ get_or xs i x → drop i xs ≡ x ∷ drop (suc i) xs
drop_next [] i x there is = absurd (omega (arith, there))
drop_next (y ∷ xs) zero x there is = ap (λ (z : _). z ∷ xs) (sym is)
drop_next (y ∷ xs) (suc i) x there is = drop_next xs i x (omega (arith, there)) is

module _ {X Y : Type 0} (f : X → Y) (xs : List X) (i : ℕ) (x : X) (there : i < length xs) (is : x ≡ get_or xs i x) where
  pub next_there : slice_get (map f xs) i ≡ Some (f x)
  next_there = let w = map_at f xs i x there is in slice_get-get_or (map f xs) i (f x) w.0 ∙ ap (λ (y : Y). Some y) (sym w.1)

  pub next_among : Contains (map f xs) (f x)
  next_among = let w = map_at f xs i x there is in (i, w.0, sym w.1)

  pub next_list : {Z : Type 0} (g : Y → Z) (lists rest : List Z) (z : Z) → lists ≡ map g (drop i (map f xs)) → lists ≡ z ∷ rest
      → (z ≡ g (f x)) × (rest ≡ map g (drop (i + 1) (map f xs)))
  next_list {Z} g lists rest z are left =
      let w = map_at f xs i x there is in
      let all : z ∷ rest ≡ g (f x) ∷ map g (drop (suc i) (map f xs)) = sym left ∙ are ∙ ap (map g) (drop_next (map f xs) i (f x) w.0 w.1) in
      let one : suc i ≡ i + 1 = omega arith in
      (ap (λ (l : List Z). get_or l 0 z) all, ap (drop 1) all ∙ ap (λ (n : ℕ). map g (drop n (map f xs))) one)

-- ---- refusals, over a longer part of the pass's run

between_within : (p p' now now' : PassView Entry) (run : Run) → IsPrefix p'.seen p.seen → IsPrefix now.seen now'.seen → IsRunBetween p now run → IsRunBetween p' now' run
between_within p p' now now' run early late is = record {
  since = prefix_trans p'.seen p.seen run early is.since;
  until = prefix_trans run now.seen now'.seen is.until late;
}

module _ (o : Opening) (most : Limits) (sources : List ShardRecord) (targets : List TargetWithSources) (p p' now now' : PassView Entry) (early : IsPrefix p'.seen p.seen)
    (late : IsPrefix now.seen now'.seen) where
  pub refusal_within : (e : ReshardFault) → IsSwitchRefusal o most sources targets p now e → IsSwitchRefusal o most sources targets p' now' e
  refusal_within _ no_memory = no_memory
  refusal_within _ (no_room s among is) =
      no_room s among (record { run = is.run; between = between_within p p' now now' is.run early late is.between; full = is.full })
  refusal_within _ (stuck t among is) =
      stuck t among (record { run = is.run; between = between_within p p' now now' is.run early late is.between; full = is.full })
  refusal_within _ (overfull t among is) =
      overfull t among (record { run = is.run; between = between_within p p' now now' is.run early late is.between; many = is.many })

module _ (o : Opening) (most : Limits) (sources : List ShardRecord) (targets : List TargetWithSources) (p now : PassView Entry) where
  pub from_move : (e : ReshardFault) → IsPrefix p.seen now.seen → IsMoveRefusal o most targets now e → IsSwitchRefusal o most sources targets p now e
  from_move _ later first_moves.no_memory = no_memory
  from_move _ later (first_moves.full t among is) =
      stuck t among (record { run = now.seen; between = record { since = later; until = prefix_self now.seen }; full = is })

pub serving_within : (o : Opening) (p p' now now' : PassView Entry) (sources : List ShardRecord) → IsPrefix p'.seen p.seen → IsPrefix now.seen now'.seen
    → AllByRecursion (λ s. IsServingAgain o s p now) sources → AllByRecursion (λ s. IsServingAgain o s p' now') sources
serving_within o p p' now now' sources early late all =
    Rattle.reshard_create.proofs.Lists.all-weaker (λ s. IsServingAgain o s p now) (λ s. IsServingAgain o s p' now')
    (λ s h. record { run = h.run; between = between_within p p' now now' h.run early late h.between; serving = h.serving }) sources all

-- ---- the next one of those that a view tells

module _ {X Y : Type 0} (f : X → Y) (all : List Y) (n : ℕ) (xs : List X) (i : ℕ) (x : X) (view : all ≡ map f xs) (at : n ≡ i) (some : n < length all)
    (is : x ≡ get_or xs i x) where
  pub view_within : i < length xs
  view_within =
      let a = ap length view in
      let b = length-map xs f in
      omega (arith, a, b, at, some)

  pub view_there : slice_get all n ≡ Some (f x)
  view_there = ap (λ (l : List Y). slice_get l n) view ∙ ap (slice_get (map f xs)) at ∙ next_there f xs i x view_within is

  pub view_among : Contains all (f x)
  view_among = subst (λ (l : List Y). Contains l (f x)) (sym view) (next_among f xs i x view_within is)

pub no_room_at : (o : Opening) (s : ShardRecord) (p now : PassView Entry) → IsOnward o p now → 2 ^ 40 ≤ length (entries_on s.slot now.seen) → HasNoRoom s p now
no_room_at o s p now on h = record { run = now.seen; between = record { since = on.later; until = prefix_self now.seen }; full = h }
