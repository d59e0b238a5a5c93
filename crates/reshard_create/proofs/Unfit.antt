-- Why a workflow isn't begun.
use Rattle.std.proofs.Common.{◌≡◌, ◌⊎◌, ◌<◌, ◌+◌, ℕ, List, [], ◌∷◌, ◌++◌, length, map, inl, inr, sym, ap, ◌∙◌, subst}
use Rattle.std.specs.Prelude.{Contains, IsPermutation}
use Rattle.std.specs.List.{AllByRecursion}
use Rattle.std.proofs.lemmas.List.{map-append}
use Rattle.std.proofs.lemmas.List.Sorted.{sum_by-IsPermutation, IsPermutation-trans, IsPermutation-map}
use mathlib.Core.List.{IsPrefix}
use Rattle.vt_value.specs.declared.refusal.Refusal.{Refusal}
use Rattle.vt_value.specs.declared.refusal.Refusal.TheVariants.{OutOfMemory}
use Rattle.keyrange.specs.declared.KeyRange.{KeyRange}
use Rattle.keyrange.specs.Ranges.{Cover}
use Rattle.shard.specs.Place.{Place}
use Rattle.serving.specs.Partitions.{Seat, IsPartition, ranges}
use Rattle.journal.specs.Views.{PassView}
use Rattle.shard_run.specs.declared.ShardRecord.{ShardRecord}
use Rattle.shard_run.specs.declared.Entry.{Entry}
use Rattle.shard_run.specs.Runs.{Opening}
use Rattle.shard_law.proofs.Lists.{In-from_Contains, In-all, all-weaker}
use Rattle.shard.specs.Seats.{seat_of}
use Rattle.reshard_cutover.specs.declared.fault.ReshardFault.{ReshardFault}
use Rattle.reshard_cutover.specs.declared.fault.ReshardFault.TheVariants.{Refused, Gap, FewSlots, WrongSource}
use Rattle.reshard_cutover.specs.declared.fault.ReshardFault.TheVariants as faults
use Rattle.reshard_create.specs.split.Choices.{DoNotOverlap, HoldTheSame}
use Rattle.reshard_create.specs.Begun.{WasSeen, IsServing, IsNotFollowing, IsAway, EndsInLookAt, AreSources, ArePartsOf, IsCreateRefusal}
use Rattle.reshard_create.specs.Begun as begun
use Rattle.reshard_create.specs.inner.Created.{AreToldApart, HasSeen}
use Rattle.reshard_cutover.proofs.Permuted.{all_permuted}
pub use Rattle.reshard_cutover.proofs.Residual.{residual}
use Rattle.reshard_create.proofs.split.Lists.{map_twice, all_map, all_from_map, all_both}
use Rattle.reshard_create.proofs.NamedRanges.{same_from_cover, cover_from_same}
use Rattle.reshard_create.proofs.SeenShards.{AreShardsAt, shards_at, shards_since, shards_until, seen_until, seen_as, serves_not_follows}
use Rattle.reshard_create.proofs.Parts.{taken_are, taken_once, all_parts, apart_from_once, once_permuted}

pub no_items : {X : Type 0} (xs : List X) → length xs ≡ 0 → xs ≡ []
no_items [] e = Rattle.std.proofs.Common.refl
no_items (x ∷ xs) e = absurd (omega (Rattle.std.proofs.Common.arith, e))

held_by_names : (from taken into : List KeyRange) → IsPermutation from taken → HoldTheSame into taken → HoldTheSame into from
held_by_names from taken into perm same id bytes = same id bytes ∙ sum_by-IsPermutation _ from taken perm

held_by_parts : (from taken into : List KeyRange) → IsPermutation from taken → HoldTheSame into from → HoldTheSame into taken
held_by_parts from taken into perm same id bytes = same id bytes ∙ sym (sum_by-IsPermutation _ from taken perm)

pub ranges_of : (shards : List ShardRecord) (seats : List Seat) → map seat_of shards ≡ seats → map (λ s. s.place.range) shards ≡ ranges seats
ranges_of shards seats at = sym (map_twice (λ (s : Seat). s.1) seat_of shards) ∙ ap ranges at

-- the same sources in another order
pub sources_again : (o : Opening) (p now : PassView Entry) (k : ℕ) (from : List KeyRange) (xs ys : List ShardRecord) → AreSources o p now k from xs → IsPermutation xs ys
    → AreSources o p now k from ys
sources_again o p now k from xs ys are perm = record {
  some = are.some;
  named =
      IsPermutation-trans from (map (λ (s : ShardRecord). s.place.range) xs) (map (λ (s : ShardRecord). s.place.range) ys) are.named
      (IsPermutation-map (λ (s : ShardRecord). s.place.range) xs ys perm);
  apart = are.apart;
  here = all_permuted (λ (s : ShardRecord). s.place.keyspace ≡ k) xs ys perm are.here;
  served = all_permuted (WasSeen o p now IsServing) xs ys perm are.served;
}

pub sources_until : (o : Opening) (p q now : PassView Entry) (k : ℕ) (from : List KeyRange) (xs : List ShardRecord) → IsPrefix q.seen now.seen → AreSources o p q k from xs
    → AreSources o p now k from xs
sources_until o p q now k from xs later are = record {
  some = are.some;
  named = are.named;
  apart = are.apart;
  here = are.here;
  served = all-weaker (WasSeen o p q IsServing) (WasSeen o p now IsServing) (λ s h. seen_until o p q now IsServing s later h) xs are.served;
}

module _ (o : Opening) (k : ℕ) (from into : List KeyRange) (seats taken rest : List Seat) (told : AreToldApart k from seats taken rest) where
  -- the shards of the named parts, as many as there are names, are sources
  pub sources_are : {S : Type 0} (which : S → ShardRecord) (p now : PassView Entry) (found : List S) → (from ≡ [] → ⊥) → length taken ≡ length from
      → (map {B = Seat} (λ s. ((which s).slot, (which s).place.range, (which s).place.keyspace)) found ≡ taken) × AllByRecursion (λ s. (which s).place.keyspace ≡ k) found
      → AllByRecursion (λ s. WasSeen o p now IsServing (which s)) found → AreSources o p now k from (map which found)
  sources_are which p now found some count of served =
      let perm = taken_are k from seats taken rest told count in
      record {
        some = some;
        named = subst (IsPermutation from) (sym (ranges_of (map which found) taken (map_twice seat_of which found ∙ of.0))) perm;
        apart = apart_from_once from (once_permuted from (ranges taken) perm (taken_once k from seats taken rest told));
        here = all_map (λ (s : ShardRecord). s.place.keyspace ≡ k) which found of.1;
        served = all_map (WasSeen o p now IsServing) which found served;
      }

  -- the shards of all parts make the partition
  pub parts_are : (p now : PassView Entry) (a b : List ShardRecord) → AreShardsAt o p now k taken a → AreShardsAt o p now k rest b → ArePartsOf o p now k from a b
  parts_are p now a b these those = record {
    partition =
        subst IsPartition (sym (map-append seat_of a b ∙ ap (λ (l : List Seat). l ++ map seat_of b) these.at ∙ ap (λ (l : List Seat). taken ++ l) those.at))
        (all_parts k from seats taken rest told);
    here = all_both (λ (s : ShardRecord). s.place.keyspace ≡ k) a b these.here those.here;
    found = all_both (WasSeen o p now IsNotFollowing) a b these.found those.found;
    named =
        all_from_map (λ (s : Seat). Contains from s.1) seat_of a
        (subst (AllByRecursion (λ (s : Seat). Contains from s.1)) (sym these.at) told.are.named);
    not_named =
        all_from_map (λ (s : Seat). Contains from s.1 → ⊥) seat_of b
        (subst (AllByRecursion (λ (s : Seat). Contains from s.1 → ⊥)) (sym those.at) told.are.not_named);
  }

  pub taken_home : AllByRecursion (λ s. s.2 ≡ k) taken
  taken_home =
      Rattle.shard_law.proofs.Lists.all-from_In (λ (s : Seat). s.2 ≡ k) taken
      (λ s h. In-all (λ (s : Seat). s.2 ≡ k) s seats told.home (In-from_Contains s seats (In-all (Contains seats) s taken told.taken_among h)))

  pub rest_home : AllByRecursion (λ s. s.2 ≡ k) rest
  rest_home =
      Rattle.shard_law.proofs.Lists.all-from_In (λ (s : Seat). s.2 ≡ k) rest
      (λ s h. In-all (λ (s : Seat). s.2 ≡ k) s seats told.home (In-from_Contains s seats (In-all (Contains seats) s rest told.rest_among h)))

  -- each part was found, and there are other names than parts
  pub not_all_there : (p q now : PassView Entry) (free : ℕ) (taken' rest' : List Seat) → taken' ≡ taken → rest' ≡ rest → IsPrefix p.seen q.seen → IsPrefix q.seen now.seen
      → AllByRecursion (HasSeen o p q k IsNotFollowing) taken' → AllByRecursion (HasSeen o q now k IsNotFollowing) rest' → (length taken ≡ length from → ⊥)
      → IsCreateRefusal o p now k free from into WrongSource
  not_all_there p q now free taken' rest' same_taken same_rest before later first second other =
      let a = shards_at o p q k taken taken_home (subst (AllByRecursion (HasSeen o p q k IsNotFollowing)) same_taken first) in
      let b = shards_at o q now k rest rest_home (subst (AllByRecursion (HasSeen o q now k IsNotFollowing)) same_rest second) in
      begun.not_there a.0 b.0 (parts_are p now a.0 b.0 (shards_until o p q now k taken a.0 later a.1) (shards_since o p q now k rest b.0 before b.1))
      (λ e. other (sym (ap length a.1.at) ∙ Rattle.std.proofs.lemmas.List.length-map a.0 seat_of ∙ e))

  -- a named part was found frozen or retired
  pub one_away : (p now : PassView Entry) (free : ℕ) (taken' : List Seat) → taken' ≡ taken → (seat : Seat) → Contains taken' seat → HasSeen o p now k IsAway seat
      → EndsInLookAt seat.0 now → IsCreateRefusal o p now k free from into WrongSource
  one_away p now free taken' same seat among seen ends =
      let s = seen.0 in
      let there = subst (λ (l : List Seat). Contains l seat) same among in
      begun.away s (ap (λ (x : Place). x.keyspace) seen.1.place)
      (subst (Contains from) (sym (ap (λ (x : Place). x.range) seen.1.place)) (In-all (λ (x : Seat). Contains from x.1) seat taken told.are.named (In-from_Contains seat taken there)))
      seen.1.seen (subst (λ (n : ℕ). EndsInLookAt n now) (sym seen.1.slot) ends)

  -- the targets don't fit the sources
  pub tested : (p now : PassView Entry) (free : ℕ) (sources : List ShardRecord) → length taken ≡ length from → AreSources o p now k from sources → (e : ReshardFault)
      (rest' : List Seat) → rest' ≡ rest
      → (e ≡ Refused OutOfMemory) ⊎ (((e ≡ faults.Overlap) × (DoNotOverlap into → ⊥)) ⊎ ((e ≡ Gap) × DoNotOverlap into × (Cover (map (λ s. s.1) rest' ++ into) → ⊥)))
      → IsCreateRefusal o p now k free from into e
  tested p now free sources count are e rest' same (inl is) = subst (IsCreateRefusal o p now k free from into) (sym is) begun.no_memory
  tested p now free sources count are e rest' same (inr (inl h)) = subst (IsCreateRefusal o p now k free from into) (sym h.0) (begun.overlap sources are h.1)
  tested p now free sources count are e rest' same (inr (inr h)) =
      let none = subst (λ (l : List Seat). Cover (map (λ s. s.1) l ++ into) → ⊥) same h.2 in
      subst (IsCreateRefusal o p now k free from into) (sym h.0)
      (begun.gap sources are h.1
      (λ held. none (cover_from_same from seats taken rest told.are into told.partition.whole
      (held_by_parts from (ranges taken) into (taken_are k from seats taken rest told count) held))))

  module _ (count : length taken ≡ length from) (cover : Cover (map (λ s. s.1) rest ++ into)) where
    pub held : HoldTheSame into from
    held =
        held_by_names from (ranges taken) into (taken_are k from seats taken rest told count)
        (same_from_cover from seats taken rest told.are into told.partition.whole cover)

    pub too_few : (p now : PassView Entry) (free free' : ℕ) (sources : List ShardRecord) → AreSources o p now k from sources → DoNotOverlap into → free' ≡ free → free' < length into
        → IsCreateRefusal o p now k free from into FewSlots
    too_few p now free free' sources are apart same few = begun.few sources are apart held (subst (λ (n : ℕ). n < length into) same few)

    -- the rest was found, after the sources
    pub too_many : {S : Type 0} (which : S → ShardRecord) (p q now : PassView Entry) (free : ℕ) (found : List S) → AreSources o p q k from (map which found)
        → (map {B = Seat} (λ s. ((which s).slot, (which s).place.range, (which s).place.keyspace)) found ≡ taken) → DoNotOverlap into
        → (rest' : List Seat) → rest' ≡ rest → (n : ℕ) → n ≡ length rest → IsPrefix p.seen q.seen → IsPrefix q.seen now.seen
        → AllByRecursion (HasSeen o q now k IsNotFollowing) rest' → 64 < n + length into → IsCreateRefusal o p now k free from into FewSlots
    too_many which p q now free found are at apart rest' same n is before later second many =
        let b = shards_at o q now k rest rest_home (subst (AllByRecursion (HasSeen o q now k IsNotFollowing)) same second) in
        let mine = sources_until o p q now k from (map which found) later are in
        let these : AreShardsAt o p now k taken (map which found) = record {
          at = map_twice seat_of which found ∙ at;
          here = mine.here;
          found =
              all-weaker (WasSeen o p now IsServing) (WasSeen o p now IsNotFollowing) (λ s h. seen_as o p now IsServing IsNotFollowing serves_not_follows s h)
              (map which found) mine.served;
        } in
        begun.many (map which found) b.0 mine (parts_are p now (map which found) b.0 these (shards_since o p q now k rest b.0 before b.1)) apart held
        (subst (λ (m : ℕ). 64 < m + length into) (is ∙ sym (ap length b.1.at) ∙ Rattle.std.proofs.lemmas.List.length-map b.0 seat_of) many)

module _ (o : Opening) (p now : PassView Entry) (k free : ℕ) (from into : List KeyRange) where
  pub create_memory : (e : Refusal) → e ≡ OutOfMemory → IsCreateRefusal o p now k free from into (Refused e)
  create_memory e is = subst (λ x. IsCreateRefusal o p now k free from into (Refused x)) (sym is) begun.no_memory
