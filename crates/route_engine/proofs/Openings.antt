-- The shards of an opening are few, and make the partitions that an engine begins with.
use Rattle.std.proofs.Common.{◌≡◌, ℕ, ◌<◌, ◌≤◌, Bool, true, false, cond, List, [], ◌∷◌, length, map, filter, sym, ap, subst, ◌∙◌, refl, arith}
use Rattle.std.specs.Prelude.{◌||◌, ◌==◌, ◌≢◌, AllPairs}
use Rattle.std.specs.List.{AllByRecursion, list_any}
use Rattle.std.proofs.lemmas.Bool.{false≢true, eqb-true}
use Rattle.std.proofs.lemmas.Bool.Decides.{Decides-eqb}
use Rattle.std.proofs.lemmas.List.{get_or-map, length-map}
use Rattle.std.proofs.lemmas.List.Sums.{length-filter, count_by-le-length}
use Rattle.std.proofs.lemmas.Map.Made.{IsDistinct-from_AllPairs}
use Rattle.std.proofs.lemmas.Map.Steps.{length-le_from_distinct_below}
use Rattle.vschema.specs.declared.schema.VSchema.{VSchema}
use Rattle.vschema.specs.Database.{Database}
use Rattle.shard_run.specs.declared.ShardRecord.{ShardRecord}
use Rattle.shard_run.specs.Runs.{Opening}
use Rattle.shard_run.specs.Openings.{IsOpening, OpensWith, shards_in}
use Rattle.keyrange.specs.declared.KeyRange.{KeyRange}
use Rattle.keyrange.specs.Names.{IsNamed}
use Rattle.keyrange.specs.Ranges.{Cover}
use Rattle.serving.specs.Partitions.{IsPartition, AreOf, ranges}
use Rattle.shard_calls.specs.Seats.{seat_of}
use Rattle.route_engine.proofs.Everywhere.{ranges_named}
use Rattle.shard_contents.specs.Entries.{opening_shards}

-- what differs pair by pair is mapped to numbers that do
mapped_apart : (f : ShardRecord → ℕ) (ss : List ShardRecord) → AllPairs (λ a b. f a ≢ f b) ss → AllPairs (λ (x : ℕ) (y : ℕ). x ≢ y) (map f ss)
mapped_apart f [] apart i j d before within = absurd (omega (arith, within))
mapped_apart f (s ∷ ss) apart i j d before within =
    let long = length-map (s ∷ ss) f in
    let last : j < length (s ∷ ss) = omega (arith, long, within) in
    let first : i < length (s ∷ ss) = omega (arith, before, last) in
    let there = get_or-map f (s ∷ ss) i s d first in
    let here = get_or-map f (s ∷ ss) j s d last in
    λ same. apart i j s before last (sym there ∙ same ∙ here)

slots_below : (schema : VSchema) (shards : List (ShardRecord × Database)) → AllByRecursion (λ p. OpensWith schema p.0 p.1) shards → (q : ℕ)
    → list_any (λ n. q == n) (map (λ s. s.slot) (map (λ p. p.0) shards)) ≡ true → q < 64
slots_below schema [] all q e = absurd (false≢true e)
slots_below schema ((s, db) ∷ shards) all q e = by (q == s.slot) refl e (slots_below schema shards all.1 q)
  where
    by : (b : Bool) → (q == s.slot) ≡ b → (b || list_any (λ n. q == n) (map (λ s. s.slot) (map (λ p. p.0) shards))) ≡ true
        → (list_any (λ n. q == n) (map (λ s. s.slot) (map (λ p. p.0) shards)) ≡ true → q < 64) → q < 64
    by true is e rest = subst (λ n. n < 64) (sym (eqb-true q s.slot is)) all.0.slot
    by false is e rest = rest e

pub few_shards : (o : Opening) → IsOpening o → length (opening_shards o) ≤ 64
few_shards o opens =
    let slots = map (λ (s : ShardRecord). s.slot) (opening_shards o) in
    let apart = IsDistinct-from_AllPairs Decides-eqb slots (mapped_apart (λ s. s.slot) (opening_shards o) opens.slots) in
    let few = length-le_from_distinct_below slots 64 apart (slots_below o.schema o.shards opens.each) in
    let long = length-map (opening_shards o) (λ (s : ShardRecord). s.slot) in
    omega (arith, few, long)

ranges_of : (ss : List ShardRecord) → ranges (map seat_of ss) ≡ map (λ (s : ShardRecord). s.place.range) ss
ranges_of [] = refl
ranges_of (s ∷ ss) = ap (λ (l : List KeyRange). s.place.range ∷ l) (ranges_of ss)

-- those of a keyspace are a partition of it
pub partition_at : (o : Opening) → IsOpening o → (k : ℕ) → k < length o.schema.keyspaces → IsPartition (map seat_of (shards_in o k))
partition_at o opens k below = record {
  named = subst (AllByRecursion IsNamed) (sym (ranges_of (shards_in o k))) (ranges_named o opens k);
  whole = subst Cover (sym (ranges_of (shards_in o k))) (opens.ranges k below);
  few =
      let in_all = few_shards o opens in
      let less = count_by-le-length (λ (s : ShardRecord). s.place.keyspace == k) (opening_shards o) in
      let kept = length-filter (λ (s : ShardRecord). s.place.keyspace == k) (opening_shards o) in
      let long = length-map (shards_in o k) seat_of in
      omega (arith, in_all, less, kept, long);
}

-- the shards that lie in a keyspace are of it
pub of_keyspace : (k : ℕ) (ss : List ShardRecord) → AreOf k (map seat_of (filter (λ s. s.place.keyspace == k) ss))
of_keyspace k [] = tt
of_keyspace k (s ∷ ss) = by (s.place.keyspace == k) refl (of_keyspace k ss)
  where
    by : (b : Bool) → (s.place.keyspace == k) ≡ b → AreOf k (map seat_of (filter (λ s. s.place.keyspace == k) ss))
        → AreOf k (map seat_of (cond b (s ∷ filter (λ s. s.place.keyspace == k) ss) (filter (λ s. s.place.keyspace == k) ss)))
    by true e rest = (eqb-true s.place.keyspace k e, rest)
    by false e rest = rest
