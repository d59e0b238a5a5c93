-- Targets that take the place of some parts of a partition: they fit as targets of these sources.
use Rattle.std.proofs.Common.{◌≡◌, ℕ, ◌≤◌, ◌==◌, ◌||◌, ◌&&◌, Bool, true, false, List, [], ◌∷◌, filter, map, count_by, get_or, refl, sym, ap, ◌∙◌, inl, inr, arith}
use Rattle.std.specs.Prelude.{AllPairs, Contains}
use Rattle.std.specs.List.{AllByRecursion, list_any}
use Rattle.std.proofs.lemmas.Bool.{and_parts, eqb-true}
use Rattle.keyrange.specs.declared.KeyRange.{KeyRange}
use Rattle.keyrange.specs.Ranges.{has_id, IsByteString, Overlap}
use Rattle.shard_run.specs.declared.ShardRecord.{ShardRecord}
use Rattle.shard_law.specs.Legal.{TogetherHold, PlacesOverlap}
use Rattle.shard_law.proofs.Lists.{In, In-from_Contains, Contains-from_In, In-map, In-from_map, In-all, In-filter, all-passed, all-weaker}
use Rattle.reshard_create.specs.split.Choices.{holders, HoldTheSame}
use Rattle.reshard_cutover.specs.Steps.{has_source, named_for, IsTargetOf, FitTargets}
use Rattle.reshard_create.specs.split.inner.Takes.{TakesFrom}
use Rattle.reshard_create.proofs.split.Counting.{counted-twice, counted-apart, counted-map, held_too}
use Rattle.reshard_cutover.proofs.Retiring.{any_in}

has_slot : (slot : ℕ) (xs : List ℕ) → list_any (λ n. n == slot) xs ≡ true → In slot xs
has_slot slot [] e = absurd (Rattle.std.proofs.lemmas.Bool.false≢true e)
has_slot slot (x ∷ xs) e = by (has_slot slot xs) (x == slot) refl e
  where
    by : (list_any (λ n. n == slot) xs ≡ true → In slot xs) → (b : Bool) → (x == slot) ≡ b → (b || list_any (λ n. n == slot) xs) ≡ true → In slot (x ∷ xs)
    by rest true i h = inl (eqb-true x slot i)
    by rest false i h = inr (rest h)

fewer : {X : Type 0} (p q : X → Bool) (xs : List X) → count_by p (filter q xs) ≤ count_by p xs
fewer p q xs = let h = counted-apart p q xs in omega (arith, h)

-- both have ranges, of one keyspace
module _ (sources targets : List ShardRecord) (k : ℕ) (home : AllByRecursion (λ s. s.place.keyspace ≡ k) sources)
    (homes : AllByRecursion (λ t. t.place.keyspace ≡ k) targets) (takes : AllByRecursion (TakesFrom sources) targets)
    (same : HoldTheSame (map (λ t. t.place.range) targets) (map (λ s. s.place.range) sources))
    (once : (id : List ℕ) → IsByteString id → holders id (map (λ s. s.place.range) sources) ≤ 1) where
  back : HoldTheSame (map (λ s. s.place.range) sources) (map (λ t. t.place.range) targets)
  back id bytes = sym (same id bytes)

  found : (a b : List ShardRecord) → HoldTheSame (map (λ s. s.place.range) a) (map (λ s. s.place.range) b) → (s : ShardRecord) → In s a → (id : List ℕ) → IsByteString id
      → has_id s.place.range id ≡ true → (t : ShardRecord) × In t b × (has_id t.place.range id ≡ true)
  found a b hold s h id bytes lies =
      let w = held_too (map (λ (x : ShardRecord). x.place.range) a) (map (λ (x : ShardRecord). x.place.range) b) hold id bytes s.place.range
      (In-map (λ (x : ShardRecord). x.place.range) s a h) lies in
      let v = In-from_map (λ (x : ShardRecord). x.place.range) w.0 b w.1 in
      (v.0, v.1, ap (λ (r : KeyRange). has_id r id) v.2 ∙ w.2)

  overlaps : (s t : ShardRecord) (id : List ℕ) → IsByteString id → has_id s.place.range id ≡ true → has_id t.place.range id ≡ true → Overlap s.place.range t.place.range
  overlaps s t id bytes a b = (id, bytes, ap (λ c. c && has_id t.place.range id) a ∙ b)

  pub is_target : (t : ShardRecord) → In t targets → IsTargetOf sources t
  is_target t h =
      let is = In-all (TakesFrom sources) t targets takes h in
      record {
        own = is.own;
        among = is.among;
        are = is.are;
        inside = λ id bytes lies.
            let w = found targets sources same t h id bytes lies in
            let mine = is.all w.0 (Contains-from_In w.0 sources w.1) (overlaps w.0 t id bytes w.2 lies) in (
              w.0.place,
              Contains-from_In w.0.place (map (λ s. s.place) is.own) (In-map (λ s. s.place) w.0 is.own (In-from_Contains w.0 is.own mine)),
              In-all (λ s. s.place.keyspace ≡ k) w.0 sources home w.1 ∙ sym (In-all (λ t. t.place.keyspace ≡ k) t targets homes h),
              w.2,
            );
      }

  whole : (s : ShardRecord) → In s sources → TogetherHold (map (λ t. t.place) (named_for s targets)) s.place
  whole s h id bytes lies =
      let w = found sources targets back s h id bytes lies in
      let t = w.0 in
      let is = In-all (TakesFrom sources) t targets takes w.1 in
      let mine = is.all s (Contains-from_In s sources h) (overlaps s t id bytes lies w.2) in
      let has : has_source s.slot t ≡ true =
      ap (list_any (λ n. n == s.slot)) is.are ∙ any_in s.slot (map (λ s. s.slot) is.own) (In-map (λ s. s.slot) s is.own (In-from_Contains s is.own mine)) in (
        t.place,
        Contains-from_In t.place (map (λ t. t.place) (named_for s targets))
            (In-map (λ t. t.place) t (named_for s targets) (In-filter (has_source s.slot) t has targets w.1)),
        In-all (λ t. t.place.keyspace ≡ k) t targets homes w.1 ∙ sym (In-all (λ s. s.place.keyspace ≡ k) s sources home h),
        w.2,
      )

  apart : (s : ShardRecord) → AllPairs (λ a b. PlacesOverlap a b → ⊥) (named_for s targets)
  apart s i j d before within overlap =
      let ts = named_for s targets in
      let id = overlap.1.0 in
      let bytes = overlap.1.1 in
      let p : ShardRecord → Bool = λ t. has_id t.place.range id in
      let both = and_parts (p (get_or ts i d)) (p (get_or ts j d)) overlap.1.2 in
      let two = counted-twice p ts i j d before within both.0 both.1 in
      let few = fewer p (has_source s.slot) targets in
      let is = counted-map (λ r. has_id r id) (λ (t : ShardRecord). t.place.range) targets in
      let all = same id bytes in
      let one = once id bytes in
      absurd (omega (arith, two, few, is, all, one))

  pub fit : (s : ShardRecord) → In s sources → FitTargets s (named_for s targets)
  fit s h = record {
    of_source =
        all-weaker (λ t. has_source s.slot t ≡ true) (λ t. Contains t.sources s.slot) (λ t e. Contains-from_In s.slot t.sources (has_slot s.slot t.sources e))
        (named_for s targets) (all-passed (has_source s.slot) targets);
    apart = apart s;
    whole = whole s h;
  }
