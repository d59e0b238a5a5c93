-- What a workflow begins with: the targets may take the sources' place, and with the parts that stay they make a partition.
use Rattle.std.proofs.Common.{◌≡◌, ℕ, ◌+◌, ◌≤◌, ◌&&◌, true, List, [], ◌∷◌, ◌++◌, length, map, count_by, refl, sym, ap, ◌∙◌, subst, arith, IsSorted}
use Rattle.std.specs.Prelude.{Contains, IsPermutation}
use Rattle.std.specs.List.{AllByRecursion}
use Rattle.std.proofs.lemmas.List.{map-append, length-map}
use Rattle.std.proofs.lemmas.List.Sorted.{sum_by-IsPermutation, length_permutation, IsPermutation-map}
use Rattle.keyrange.specs.declared.KeyRange.{KeyRange}
use Rattle.keyrange.specs.Ranges.{has_id, IsByteString, Overlap, Cover}
use Rattle.keyrange.specs.Names.{IsNamed}
use Rattle.serving.specs.Partitions.{Seat, IsPartition, AreOf, ranges}
use Rattle.journal.specs.Views.{PassView}
use Rattle.shard_run.specs.declared.ShardRecord.{ShardRecord}
use Rattle.shard_run.specs.declared.Entry.{Entry}
use Rattle.shard_run.specs.Runs.{Opening}
use Rattle.shard_law.proofs.Lists.{In, In-from_Contains, Contains-from_In, In-map, In-from_map, In-all, all-from_In, all-weaker}
use Rattle.reshard_create.specs.split.Choices.{DoNotOverlap, holders, HoldTheSame, begin_cmp}
use Rattle.reshard_cutover.specs.Steps.{named_for, FitTargets, IsTargetOf}
use Rattle.reshard_create.specs.split.Splits.{target_seats, IsSplit, AreOverlapped}
use Rattle.reshard_create.specs.split.inner.Takes.{TakesFrom}
use Rattle.shard.specs.Seats.{seat_of}
use Rattle.reshard_cutover.specs.TargetSources.{TargetWithSources, shards_of}
use Rattle.reshard_create.specs.Begun.{AreSources, TakesItsOwn, IsTakenFrom, HasBegun}
use Rattle.reshard_create.specs.inner.Created.{AreNamed, AreToldApart, IsMadeOf, IsSurvey}
pub use Rattle.reshard_cutover.proofs.Permuted.{all_permuted}
pub use Rattle.reshard_create.proofs.split.Lists.{map_twice, all_map}
use Rattle.reshard_create.proofs.split.Lists.{all_from_map, all_both}
use Rattle.reshard_create.proofs.split.Those.{all_those}
use Rattle.reshard_create.proofs.split.Counting.{counted-append, held_too}
use Rattle.reshard_create.proofs.NamedRanges.{same_from_cover, at_most_one}
use Rattle.reshard_create.proofs.Blank.{begins_inside}
use Rattle.reshard_create.proofs.split.Splits.{fit, is_target}

module _ (current taken rest : List Seat) (from into ordered : List KeyRange) (are : AreNamed from current taken rest) (among : AllByRecursion (Contains current) rest)
    (is : IsPartition current) (k : ℕ) (sources : List ShardRecord) (seats : map seat_of sources ≡ taken) (home : AllByRecursion (λ s. s.place.keyspace ≡ k) sources)
    (cover : Cover (map (λ s. s.1) rest ++ into)) (order : IsPermutation into ordered) where
  ranges_are : map (λ s. s.1) taken ≡ map (λ s. s.place.range) sources
  ranges_are = ap (map (λ (s : Seat). s.1)) (sym seats) ∙ map_twice (λ (s : Seat). s.1) seat_of sources

  same_into : HoldTheSame into (map (λ s. s.place.range) sources)
  same_into = subst (HoldTheSame into) ranges_are (same_from_cover from current taken rest are into is.whole cover)

  reordered : (id : List ℕ) → holders id ordered ≡ holders id into
  reordered id = sum_by-IsPermutation _ into ordered order

  same_ordered : HoldTheSame ordered (map (λ s. s.place.range) sources)
  same_ordered id bytes = reordered id ∙ same_into id bytes

  once : (id : List ℕ) → IsByteString id → holders id (map (λ s. s.place.range) sources) ≤ 1
  once id bytes =
      subst (λ (l : List KeyRange). holders id l ≤ 1) ranges_are (at_most_one from current taken rest are into is.whole id bytes)

  -- each target overlaps some source
  pub covered : AllByRecursion IsNamed into → AllByRecursion (λ r. (own : List ShardRecord) → AreOverlapped sources r own → own ≡ [] → ⊥) ordered
  covered named =
      all-from_In (λ r. (own : List ShardRecord) → AreOverlapped sources r own → own ≡ [] → ⊥) ordered (λ r h own of none. by r h own of none)
    where
      by : (r : KeyRange) → In r ordered → (own : List ShardRecord) → AreOverlapped sources r own → own ≡ [] → ⊥
      by r h own of none =
          let w = begins_inside r (In-all IsNamed r ordered (all_permuted IsNamed into ordered order named) h) in
          let f = held_too ordered (map (λ (s : ShardRecord). s.place.range) sources) same_ordered r.begin w.0 r h w.1 in
          let s = In-from_map (λ (s : ShardRecord). s.place.range) f.0 sources f.1 in
          let lies : has_id s.0.place.range r.begin ≡ true = ap (λ (x : KeyRange). has_id x r.begin) s.2 ∙ f.2 in
          let both : Overlap s.0.place.range r = (r.begin, w.0, ap (λ c. c && has_id r r.begin) lies ∙ w.1) in
          let mine = In-from_Contains s.0 own (of.all s.0 (Contains-from_In s.0 sources s.1) both) in
          subst (In s.0) none mine

  module _ (targets : List TargetWithSources) (at : map (λ t. t.0.place.range) targets ≡ ordered) (made : AllByRecursion (IsMadeOf sources k) targets) where
    takes : AllByRecursion (TakesFrom sources) (shards_of targets)
    takes =
        all_map (TakesFrom sources) (λ (t : TargetWithSources). t.0) targets
        (all-weaker (IsMadeOf sources k) (λ t. TakesFrom sources t.0) (λ t h. h.takes) targets made)

    homes : AllByRecursion (λ t. t.place.keyspace ≡ k) (shards_of targets)
    homes =
        all_map (λ (t : ShardRecord). t.place.keyspace ≡ k) (λ (t : TargetWithSources). t.0) targets
        (all-weaker (IsMadeOf sources k) (λ t. t.0.place.keyspace ≡ k) (λ t h. h.home) targets made)

    same : HoldTheSame (map (λ t. t.place.range) (shards_of targets)) (map (λ s. s.place.range) sources)
    same =
        subst (λ (l : List KeyRange). HoldTheSame l (map (λ s. s.place.range) sources))
        (sym (map_twice (λ (t : ShardRecord). t.place.range) (λ (t : TargetWithSources). t.0) targets ∙ at)) same_ordered

    pub split : IsSplit sources targets
    split = record {
      fit = all-from_In (λ s. FitTargets s (named_for s (shards_of targets))) sources (λ s h. fit sources (shards_of targets) k home homes takes same once s h);
      of_sources =
          all-from_In (λ t. IsTargetOf sources t.0) targets
          (λ t h. is_target sources (shards_of targets) k home homes takes same once t.0 (In-map (λ (t : TargetWithSources). t.0) t targets h));
      own = all-weaker (IsMadeOf sources k) (λ t. AllByRecursion (λ s. Contains t.0.sources s.slot) t.1) (λ t h. h.own) targets made;
    }

    -- an id of a source lies in a target, which takes from it
    taken_from : (s : ShardRecord) → In s sources → IsNamed s.place.range → IsTakenFrom targets s
    taken_from s h named =
        let w = begins_inside s.place.range named in
        let back : HoldTheSame (map (λ s. s.place.range) sources) ordered = λ id bytes. sym (same_ordered id bytes) in
        let f = held_too (map (λ (x : ShardRecord). x.place.range) sources) ordered back s.place.range.begin w.0 s.place.range
        (In-map (λ (x : ShardRecord). x.place.range) s sources h) w.1 in
        let v = In-from_map (λ (t : TargetWithSources). t.0.place.range) f.0 targets (subst (In f.0) (sym at) f.1) in
        let t = v.0 in
        let lies : has_id t.0.place.range s.place.range.begin ≡ true = ap (λ (r : KeyRange). has_id r s.place.range.begin) v.2 ∙ f.2 in
        let both : Overlap s.place.range t.0.place.range =
        (s.place.range.begin, w.0, ap (λ c. c && has_id t.0.place.range s.place.range.begin) w.1 ∙ lies) in
        let those = (In-all (IsMadeOf sources k) t targets made v.1).exactly.those in
        (t, Contains-from_In t targets v.1, all_those t.0.place.range sources t.1 those s (Contains-from_In s sources h) both)

    pub begun : (o : Opening) (p now : PassView Entry) → AreSources o p now k from sources → DoNotOverlap into → AllByRecursion (λ s. IsNamed s.place.range) sources
        → IsSorted begin_cmp (map (λ s. s.place.range) sources) → IsSorted begin_cmp ordered → HasBegun o p now sources targets k from into
    begun o p now are_sources apart named sources_rise targets_rise = record {
      are = are_sources;
      ranges = subst (IsPermutation into) (sym at) order;
      home = all-weaker (IsMadeOf sources k) (λ t. t.0.place.keyspace ≡ k) (λ t h. h.home) targets made;
      apart = apart;
      same = λ id bytes. same_into id bytes ∙ sum_by-IsPermutation _ from (map (λ (s : ShardRecord). s.place.range) sources) are_sources.named;
      takes = all-weaker (IsMadeOf sources k) (TakesItsOwn sources) (λ t h. h.exactly) targets made;
      taken = all-from_In (IsTakenFrom targets) sources (λ s h. taken_from s h (In-all (λ (x : ShardRecord). IsNamed x.place.range) s sources named h));
      sources_rise = sources_rise;
      targets_rise = subst (IsSorted begin_cmp) (sym at) targets_rise;
    }

    pub next : (seats' : List Seat) → seats' ≡ target_seats targets → AllByRecursion IsNamed into → length rest + length into ≤ 64
        → IsPartition (rest ++ seats')
    next seats' are_placed names few =
        let of_placed : ranges seats' ≡ ordered =
        ap ranges are_placed ∙ map_twice (λ (s : Seat). s.1) (λ (t : TargetWithSources). seat_of t.0) targets ∙ at in
        let all : ranges (rest ++ seats') ≡ ranges rest ++ ordered = map-append (λ (s : Seat). s.1) rest seats' ∙ ap (λ l. ranges rest ++ l) of_placed in
        record {
          named =
              subst (AllByRecursion IsNamed) (sym all)
              (all_both IsNamed (ranges rest) ordered
              (all_map IsNamed (λ (s : Seat). s.1) rest
              (all-from_In (λ (s : Seat). IsNamed s.1) rest
              (λ s h. In-all IsNamed s.1 (ranges current) is.named
              (In-map (λ (s : Seat). s.1) s current (In-from_Contains s current (In-all (Contains current) s rest among h))))))
              (all_permuted IsNamed into ordered order names));
          whole = subst Cover (sym all) (λ id bytes.
              let c = cover id bytes in
              let a = counted-append (λ r. has_id r id) (ranges rest) into in
              let b = counted-append (λ r. has_id r id) (ranges rest) ordered in
              let e = reordered id in
              omega (arith, c, a, b, e));
          few =
              let a = ap length all in
              let b = length_permutation into ordered order in
              let c = Rattle.std.proofs.Common.length-append (ranges rest) ordered in
              let d = length-map rest (λ (s : Seat). s.1) in
              let e = ap length all ∙ c in
              let f = length-map (rest ++ seats') (λ (s : Seat). s.1) in
              omega (arith, b, c, d, e, f, few);
        }

-- those that are named are of the keyspace of all
pub of_taken : (k : ℕ) (parts taken : List Seat) → AllByRecursion (Contains parts) taken → AreOf k parts → AreOf k taken
of_taken k parts [] among of = tt
of_taken k parts (x ∷ taken) among of =
    (In-all (λ (seat : Seat). seat.2 ≡ k) x parts of (In-from_Contains x parts among.0), of_taken k parts taken among.1 of)

-- so are the parts that stay, with the targets
pub homes_here : (k : ℕ) (parts rest seats : List Seat) (targets : List TargetWithSources) → AllByRecursion (Contains parts) rest → AreOf k parts → seats ≡ target_seats targets
    → AllByRecursion (λ t. t.0.place.keyspace ≡ k) targets → AreOf k (rest ++ seats)
homes_here k parts rest seats targets among of seated homes =
    all_both (λ (s : Seat). s.2 ≡ k) rest seats (of_taken k parts rest among of)
    (subst (AreOf k) (sym seated) (all_map (λ (s : Seat). s.2 ≡ k) (λ (t : TargetWithSources). seat_of t.0) targets homes))

pub told_apart : (k : ℕ) (from : List KeyRange) (current parts taken rest : List Seat) → parts ≡ current → IsPartition current → AreOf k current
    → AreNamed from parts taken rest → AllByRecursion (Contains parts) taken → AllByRecursion (Contains parts) rest → AreToldApart k from parts taken rest
told_apart k from current parts taken rest same is home are taken_among rest_among = record {
  partition = subst IsPartition (sym same) is;
  home = subst (AreOf k) (sym same) home;
  are = are;
  taken_among = taken_among;
  rest_among = rest_among;
}

-- what is known once the targets' ranges are in order
pub record OrderedRanges (parts taken rest : List Seat) (from into ordered : List KeyRange) (k : ℕ) (sources : List ShardRecord) : Type 0 where
  pub is : IsPartition parts
  pub are : AreNamed from parts taken rest
  pub among : AllByRecursion (Contains parts) rest
  pub seats : map seat_of sources ≡ taken
  pub home : AllByRecursion (λ s. s.place.keyspace ≡ k) sources
  pub cover : Cover (map (λ s. s.1) rest ++ into)
  pub order : IsPermutation into ordered

pub surveyed : {S : Type 0} (which : S → ShardRecord) (parts current taken rest : List Seat) (from into : List KeyRange) (k : ℕ) (found : List S) → IsPartition current
    → parts ≡ current → AreNamed from parts taken rest → AllByRecursion (Contains parts) taken → AllByRecursion (Contains parts) rest
    → (map {B = Seat} (λ s. ((which s).slot, (which s).place.range, (which s).place.keyspace)) found ≡ taken) × AllByRecursion (λ s. (which s).place.keyspace ≡ k) found
    → length taken ≡ length from → Cover (map (λ s. s.1) rest ++ into) → length rest + length into ≤ 64 → IsSurvey k from into current (map which found) rest
surveyed which parts current taken rest from into k found is same are of_parts among of count cover few =
    let at : map seat_of (map which found) ≡ taken = map_twice seat_of which found ∙ of.0 in
    record {
      taken = taken;
      named = subst (λ (l : List Seat). AreNamed from l taken rest) same are;
      among = subst (λ (l : List Seat). AllByRecursion (Contains l) rest) same among;
      seats = at;
      home = all_map (λ (s : ShardRecord). s.place.keyspace ≡ k) which found of.1;
      ranged =
          all_from_map (λ (s : Seat). IsNamed s.1) seat_of (map which found)
          (subst (AllByRecursion (λ (s : Seat). IsNamed s.1)) (sym at)
          (all-from_In (λ (s : Seat). IsNamed s.1) taken
          (λ s h. In-all IsNamed s.1 (ranges current) is.named
          (In-map (λ (s : Seat). s.1) s current
          (In-from_Contains s current (In-all (Contains current) s taken (subst (λ (l : List Seat). AllByRecursion (Contains l) taken) same of_parts) h))))));
      count = count;
      cover = cover;
      few = few;
    }

-- the same with the sources in another order
pub surveyed_again : {S : Type 0} (which : S → ShardRecord) (parts rest : List Seat) (from into : List KeyRange) (k : ℕ) (xs ys : List S) → IsPermutation xs ys
    → IsSurvey k from into parts (map which xs) rest → IsSurvey k from into parts (map which ys) rest
surveyed_again which parts rest from into k xs ys order sv =
    let perm = IsPermutation-map which xs ys order in
    let as_seats = IsPermutation-map seat_of (map which xs) (map which ys) perm in
    let seats : IsPermutation sv.taken (map seat_of (map which ys)) = subst (λ (l : List Seat). IsPermutation l (map seat_of (map which ys))) sv.seats as_seats in
    record {
      taken = map seat_of (map which ys);
      named = record {
        named = all_permuted (λ (s : Seat). Contains from s.1) sv.taken (map seat_of (map which ys)) seats sv.named.named;
        not_named = sv.named.not_named;
        all = λ p. sv.named.all p ∙ ap (λ (n : ℕ). n + count_by p rest) (sym (sum_by-IsPermutation _ sv.taken (map seat_of (map which ys)) seats));
      };
      among = sv.among;
      seats = refl;
      home = all_permuted (λ (s : ShardRecord). s.place.keyspace ≡ k) (map which xs) (map which ys) perm sv.home;
      ranged = all_permuted (λ (s : ShardRecord). IsNamed s.place.range) (map which xs) (map which ys) perm sv.ranged;
      count = length_permutation sv.taken (map seat_of (map which ys)) seats ∙ sv.count;
      cover = sv.cover;
      few = sv.few;
    }

pub ranges_in_order : (parts rest : List Seat) (from into ordered : List KeyRange) (k : ℕ) (sources : List ShardRecord) → IsPartition parts
    → (sv : IsSurvey k from into parts sources rest) → IsPermutation into ordered → OrderedRanges parts sv.taken rest from into ordered k sources
ranges_in_order parts rest from into ordered k sources is sv order = record {
  is = is;
  are = sv.named;
  among = sv.among;
  seats = sv.seats;
  home = sv.home;
  cover = sv.cover;
  order = order;
}

module _ (parts taken rest : List Seat) (from into ordered : List KeyRange) (k : ℕ) (sources : List ShardRecord) (st : OrderedRanges parts taken rest from into ordered k sources) where
  pub covered_here : AllByRecursion IsNamed into → AllByRecursion (λ r. (own : List ShardRecord) → AreOverlapped sources r own → own ≡ [] → ⊥) ordered
  covered_here = covered parts taken rest from into ordered st.are st.among st.is k sources st.seats st.home st.cover st.order

  module _ {T : Type 0} (f : T → TargetWithSources) (ts : List T) (ordered' : List KeyRange) (same : ordered' ≡ ordered) (at : map (λ t. (f t).0.place.range) ts ≡ ordered')
      (made : AllByRecursion (IsMadeOf sources k) (map f ts)) where
    ranged : map (λ t. t.0.place.range) (map f ts) ≡ ordered
    ranged = map_twice (λ (t : TargetWithSources). t.0.place.range) f ts ∙ at ∙ same

    pub split_here : IsSplit sources (map f ts)
    split_here = split parts taken rest from into ordered st.are st.among st.is k sources st.seats st.home st.cover st.order (map f ts) ranged made

    pub begun_here : (o : Opening) (p now : PassView Entry) → AreSources o p now k from sources → DoNotOverlap into → AllByRecursion (λ s. IsNamed s.place.range) sources
        → IsSorted begin_cmp (map (λ s. s.place.range) sources) → IsSorted begin_cmp ordered → HasBegun o p now sources (map f ts) k from into
    begun_here o p now are_sources apart named sources_rise targets_rise =
        begun parts taken rest from into ordered st.are st.among st.is k sources st.seats st.home st.cover st.order (map f ts) ranged made o p now are_sources apart named
        sources_rise targets_rise

    pub next_here : (seats : List Seat) → seats ≡ target_seats (map f ts) → AllByRecursion IsNamed into → length rest + length into ≤ 64 → IsPartition (rest ++ seats)
    next_here = next parts taken rest from into ordered st.are st.among st.is k sources st.seats st.home st.cover st.order (map f ts) ranged made
