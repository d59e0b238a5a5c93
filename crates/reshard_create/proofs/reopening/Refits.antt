-- A workflow that is made again: its targets may take the sources' place, and with the parts that stay they make a partition.
use Rattle.std.proofs.Common.{◌≡◌, ℕ, ◌≤◌, replicate, List, [], ◌∷◌, ◌++◌, length, map, sym, ap, ◌∙◌, subst, arith, length-append}
use Rattle.std.specs.Prelude.{Contains, not, ◌==◌}
use Rattle.std.specs.List.{AllByRecursion, list_any}
use Rattle.std.proofs.lemmas.List.{map-append, length-map, length-replicate}
use Rattle.keyrange.specs.declared.KeyRange.{KeyRange}
use Rattle.keyrange.specs.Ranges.{has_id, IsByteString, Cover}
use Rattle.keyrange.specs.Names.{IsNamed}
use Rattle.serving.specs.Partitions.{Seat, IsPartition, AreOf, ranges}
use Rattle.shard_run.specs.declared.ShardRecord.{ShardRecord}
use Rattle.shard_law.proofs.Lists.{In, Contains-from_In, In-map, In-from_filter, In-all, all-from_In, all-weaker}
use Rattle.reshard_create.specs.split.Choices.{holders, HoldTheSame}
use Rattle.reshard_cutover.specs.Steps.{named_for, FitTargets, IsTargetOf}
use Rattle.reshard_create.specs.split.Splits.{target_seats, IsSplit}
use Rattle.reshard_create.specs.split.inner.Takes.{TakesFrom}
use Rattle.shard.specs.Seats.{seat_of}
use Rattle.reshard_cutover.specs.TargetSources.{TargetWithSources, shards_of}
use Rattle.shard_run.specs.declared.Mode.TheVariants.{Serving, Frozen, Retired}
use Rattle.reshard_create.specs.reopening.Rebuilt.{FoundView, IsCutoverProgress, others, MayReplace, IsRefitted}
use Rattle.reshard_create.specs.reopening.inner.Snapshots.{IsRebuiltTarget}
use Rattle.reshard_create.proofs.split.Counting.{counted-append}
use Rattle.reshard_create.proofs.split.Splits.{fit, is_target}
use Rattle.reshard_create.proofs.split.Lists.{map_twice, all_map}
use Rattle.reshard_create.proofs.reopening.Taken.{takes_from}

both : {X : Type 0} (P : X → Type 0) (xs ys : List X) → AllByRecursion P xs → AllByRecursion P ys → AllByRecursion P (xs ++ ys)
both P [] ys a b = b
both P (x ∷ xs) ys a b = (a.0, both P xs ys a.1 b)

first_half : {X : Type 0} (P : X → Type 0) (xs ys : List X) → AllByRecursion P (xs ++ ys) → AllByRecursion P xs
first_half P [] ys a = tt
first_half P (x ∷ xs) ys a = (a.0, first_half P xs ys a.1)

pub second_half : {X : Type 0} (P : X → Type 0) (xs ys : List X) → AllByRecursion P (xs ++ ys) → AllByRecursion P ys
second_half P [] ys a = a
second_half P (x ∷ xs) ys a = second_half P xs ys a.1

unmapped : {X Y : Type 0} (P : Y → Type 0) (f : X → Y) (xs : List X) → AllByRecursion P (map f xs) → AllByRecursion (λ x. P (f x)) xs
unmapped P f [] all = tt
unmapped P f (x ∷ xs) all = (all.0, unmapped P f xs all.1)

own_slots : (slots : List ℕ) (own : List ShardRecord) → slots ≡ map (λ s. s.slot) own → AllByRecursion (λ s. Contains slots s.slot) own
own_slots slots own are =
    all-from_In (λ (s : ShardRecord). Contains slots s.slot) own
    (λ s h. subst (λ (l : List ℕ). Contains l s.slot) (sym are) (Contains-from_In s.slot (map (λ s. s.slot) own) (In-map (λ (s : ShardRecord). s.slot) s own h)))

-- those that stay are of the partition
pub stay : (P : Seat → Type 0) (seats parts : List Seat) → AllByRecursion P parts → AllByRecursion P (others seats parts)
stay P seats parts all =
    all-from_In P (others seats parts)
    (λ x h. In-all P x parts all (In-from_filter (λ part. not (list_any (λ seat. seat.0 == part.0) seats)) x parts h).0)

module _ (k : ℕ) (rest from into : List Seat) (is : MayReplace k rest from into) (sources : List ShardRecord) (targets : List TargetWithSources)
    (at : map seat_of sources ≡ from) (there : target_seats targets ≡ into) (taken : AllByRecursion (IsRebuiltTarget sources) targets) where
  of_from : ranges from ≡ map (λ s. s.place.range) sources
  of_from = ap ranges (sym at) ∙ map_twice (λ (s : Seat). s.1) seat_of sources

  of_into : ranges into ≡ map (λ t. t.place.range) (shards_of targets)
  of_into =
      ap ranges (sym there) ∙ map_twice (λ (s : Seat). s.1) (λ (t : TargetWithSources). seat_of t.0) targets
      ∙ sym (map_twice (λ (t : ShardRecord). t.place.range) (λ (t : TargetWithSources). t.0) targets)

  same_seats : HoldTheSame (ranges into) (ranges from)
  same_seats id bytes =
      let a = is.before id bytes in
      let b = is.after id bytes in
      let c = counted-append (λ r. has_id r id) (ranges rest) (ranges from) in
      let d = counted-append (λ r. has_id r id) (ranges rest) (ranges into) in
      omega (arith, a, b, c, d)

  once_seats : (id : List ℕ) → IsByteString id → holders id (ranges from) ≤ 1
  once_seats id bytes =
      let a = is.before id bytes in
      let c = counted-append (λ r. has_id r id) (ranges rest) (ranges from) in
      omega (arith, a, c)

  same : HoldTheSame (map (λ t. t.place.range) (shards_of targets)) (map (λ s. s.place.range) sources)
  same =
      subst (λ (l : List KeyRange). HoldTheSame l (map (λ s. s.place.range) sources)) of_into
      (subst (λ (l : List KeyRange). HoldTheSame (ranges into) l) of_from same_seats)

  once : (id : List ℕ) → IsByteString id → holders id (map (λ s. s.place.range) sources) ≤ 1
  once id bytes = subst (λ (l : List KeyRange). holders id l ≤ 1) of_from (once_seats id bytes)

  takes : AllByRecursion (TakesFrom sources) (shards_of targets)
  takes =
      all_map (TakesFrom sources) (λ (t : TargetWithSources). t.0) targets
      (all-weaker (IsRebuiltTarget sources) (λ t. TakesFrom sources t.0)
      (λ t h. takes_from sources t.0 (record { own = t.1; those = h.those; are = h.are })) targets taken)

  home_from : AreOf k from
  home_from = first_half (λ (s : Seat). s.2 ≡ k) from into is.home

  home_into : AreOf k into
  home_into = second_half (λ (s : Seat). s.2 ≡ k) from into is.home

  home : AllByRecursion (λ s. s.place.keyspace ≡ k) sources
  home =
      all-from_In (λ (s : ShardRecord). s.place.keyspace ≡ k) sources
      (λ s h. In-all (λ (x : Seat). x.2 ≡ k) (seat_of s) from home_from (subst (In (seat_of s)) at (In-map seat_of s sources h)))

  homes : AllByRecursion (λ t. t.place.keyspace ≡ k) (shards_of targets)
  homes =
      all_map (λ (t : ShardRecord). t.place.keyspace ≡ k) (λ (t : TargetWithSources). t.0) targets
      (all-from_In (λ (t : TargetWithSources). t.0.place.keyspace ≡ k) targets
      (λ t h. In-all (λ (x : Seat). x.2 ≡ k) (seat_of t.0) into home_into
      (subst (In (seat_of t.0)) there (In-map (λ (t : TargetWithSources). seat_of t.0) t targets h))))

  split : IsSplit sources targets
  split = record {
    fit = all-from_In (λ s. FitTargets s (named_for s (shards_of targets))) sources (λ s h. fit sources (shards_of targets) k home homes takes same once s h);
    of_sources =
        all-from_In (λ t. IsTargetOf sources t.0) targets
        (λ t h. is_target sources (shards_of targets) k home homes takes same once t.0 (In-map (λ (t : TargetWithSources). t.0) t targets h));
    own = all-weaker (IsRebuiltTarget sources) (λ t. AllByRecursion (λ s. Contains t.0.sources s.slot) t.1) (λ t h. own_slots t.0.sources t.1 h.are) targets taken;
  }

  pub refitted : (seats : List Seat) → seats ≡ into → AllByRecursion IsNamed (ranges rest) → AllByRecursion IsNamed (ranges into) → AreOf k rest
      → IsRefitted k rest sources targets seats
  refitted seats same_seats' names names' here =
      let all : ranges (rest ++ seats) ≡ ranges rest ++ ranges into = ap (λ l. ranges (rest ++ l)) same_seats' ∙ map-append (λ (s : Seat). s.1) rest into in
      record {
        split = split;
        seated = same_seats' ∙ sym there;
        next = record {
          named = subst (AllByRecursion IsNamed) (sym all) (both IsNamed (ranges rest) (ranges into) names names');
          whole = subst Cover (sym all) is.after;
          few =
              let a = is.few in
              let b = ap length same_seats' in
              let c = length-append rest seats in
              omega (arith, a, b, c);
        };
        home = both (λ (s : Seat). s.2 ≡ k) rest seats here (subst (AreOf k) (sym same_seats') home_into);
      }

-- ---- of shards that were found

module _ {F S T : Type 0} (found_which : F → ShardRecord) (found_seat : F → Seat) (which : S → ShardRecord) (taking : T → TargetWithSources) (seat : T → Seat) (k : ℕ)
    (parts from into : List Seat) (fs gs : List F) (ss : List S) (ts : List T) (rest : List Seat) where
  pub refitted_again : IsPartition parts → AreOf k parts → rest ≡ others (from ++ into) parts → MayReplace k (others (from ++ into) parts) from into
      → map (λ f. seat_of (found_which f)) fs ≡ from → map (λ f. seat_of (found_which f)) gs ≡ into → map found_seat gs ≡ into
      → AllByRecursion (λ f. IsNamed (found_which f).place.range) gs
      → map which ss ≡ map found_which fs → map (λ t. (taking t).0) ts ≡ map found_which gs → map seat ts ≡ map found_seat gs
      → AllByRecursion (IsRebuiltTarget (map found_which fs)) (map taking ts) → IsRefitted k rest (map which ss) (map taking ts) (map seat ts)
  refitted_again partition here staying replace at there seated names same_sources same_targets same_seats' taken =
      let is : MayReplace k rest from into = subst (λ (l : List Seat). MayReplace k l from into) (sym staying) replace in
      let own : AllByRecursion (IsRebuiltTarget (map which ss)) (map taking ts) =
      subst (λ (l : List ShardRecord). AllByRecursion (IsRebuiltTarget l) (map taking ts)) (sym same_sources) taken in
      let sources_at : map seat_of (map which ss) ≡ from = ap (map seat_of) same_sources ∙ map_twice seat_of found_which fs ∙ at in
      let targets_at : target_seats (map taking ts) ≡ into =
      map_twice (λ (t : TargetWithSources). seat_of t.0) taking ts ∙ sym (map_twice seat_of (λ t. (taking t).0) ts) ∙ ap (map seat_of) same_targets
      ∙ map_twice seat_of found_which gs ∙ there in
      refitted k rest from into is (map which ss) (map taking ts) sources_at targets_at own (map seat ts) (same_seats' ∙ seated)
      (all_map IsNamed (λ (s : Seat). s.1) rest
      (subst (AllByRecursion (λ (s : Seat). IsNamed s.1)) (sym staying)
      (stay (λ (s : Seat). IsNamed s.1) (from ++ into) parts (unmapped IsNamed (λ (s : Seat). s.1) parts partition.named))))
      (subst (λ (l : List Seat). AllByRecursion IsNamed (ranges l)) there
      (subst (AllByRecursion IsNamed) (sym (map_twice (λ (s : Seat). s.1) (λ f. seat_of (found_which f)) gs))
      (all_map IsNamed (λ f. (found_which f).place.range) gs names)))
      (subst (AreOf k) (sym staying) (stay (λ (s : Seat). s.2 ≡ k) (from ++ into) parts here))

pub retired_within : (sources : List ShardRecord) (fs gs : List FoundView) (frozen retired served : ℕ) → sources ≡ map (λ f. f.0) fs
    → IsCutoverProgress (map (λ f. f.1) fs) (map (λ f. f.1) gs) frozen retired served → retired ≤ length sources
retired_within sources fs gs frozen retired served same is =
    let a = ap length same ∙ length-map fs (λ (f : FoundView). f.0) in
    let b = sym (length-map fs (λ (f : FoundView). f.1)) ∙ ap length is.of_sources
    ∙ length-append (replicate retired Retired) (replicate is.held Frozen ++ replicate is.serving Serving) in
    let c = length-replicate retired Retired in
    omega (arith, a, b, c)
