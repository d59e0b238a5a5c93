-- The targets of a workflow, one after the other.
use Rattle.std.proofs.Common.{◌≡◌, ℕ, zero, suc, ◌+◌, ◌<◌, List, [], ◌∷◌, ◌++◌, length, take, get_or, map, refl, sym, ap, ◌∙◌, subst, arith}
use Rattle.std.specs.Prelude.{Contains}
use Rattle.std.specs.List.{AllByRecursion}
use Rattle.std.proofs.lemmas.List.{take_more, map-append}
use Rattle.keyrange.specs.declared.KeyRange.{KeyRange}
use Rattle.keyrange.specs.Ranges.{Overlap}
use Rattle.shard_run.specs.declared.ShardRecord.{ShardRecord}
use Rattle.shard_run.specs.declared.Entry.{Entry}
use Rattle.shard_law.proofs.Lists.{Contains-from_In, AllByRecursion-push}
use Rattle.shard.specs.Place.{Place}
use Rattle.shard_run.specs.Runs.{Opening}
use Rattle.reshard_cutover.specs.Overlapping.{AreThose}
use Rattle.reshard_create.specs.split.Splits.{AreOverlapped}
use Rattle.reshard_create.specs.Begun.{WasSeen, IsServing}
use Rattle.reshard_create.specs.inner.Created.{IsMade, IsMadeOf, IsSeenAt}
use Rattle.reshard_create.proofs.SeenShards.{seat_is, seen_since, seen_until}
use mathlib.Core.List.{IsPrefix}
use Rattle.journal.specs.Views.{PassView}
use Rattle.shard_law.proofs.Lists.{all-weaker}
use Rattle.serving.specs.Partitions.{Seat, AreOf}
use Rattle.shard.specs.Seats.{seat_of}
use Rattle.reshard_cutover.specs.TargetSources.{TargetWithSources}

pub no_slots : (xs : List ShardRecord) → map (λ s. s.slot) xs ≡ [] → xs ≡ []
no_slots [] e = refl
no_slots (x ∷ xs) e = absurd (cc e)

all_slots : (xs : List ShardRecord) → AllByRecursion (λ s. Contains (map (λ s. s.slot) xs) s.slot) xs
all_slots xs =
    Rattle.shard_law.proofs.Lists.all-from_In (λ (s : ShardRecord). Contains (map (λ s. s.slot) xs) s.slot) xs
    (λ s h. Contains-from_In s.slot (map (λ s. s.slot) xs) (Rattle.shard_law.proofs.Lists.In-map (λ (s : ShardRecord). s.slot) s xs h))

pub made : (sources : List ShardRecord) (k : ℕ) (range : KeyRange) (own : List ShardRecord) (which : ShardRecord) (place : Place) → which.place ≡ place → place.keyspace ≡ k → place.range ≡ range
    → which.sources ≡ map (λ s. s.slot) own → AreOverlapped sources range own → AreThose range sources own → (own ≡ [] → ⊥) → IsMade sources k range (which, own)
made sources k range own which place there home at are is those some = record {
  at = ap (λ (p : Place). p.range) there ∙ at;
  is = record {
    home = ap (λ (p : Place). p.keyspace) there ∙ home;
    takes = record {
      own = own;
      among = is.among;
      are = are;
      all = λ s h over. is.all s h (subst (λ (r : KeyRange). Overlap s.place.range r) (ap (λ (p : Place). p.range) there ∙ at) over);
    };
    own = subst (λ (l : List ℕ). AllByRecursion (λ s. Contains l s.slot) own) (sym are) (all_slots own);
    exactly = record {
      are = are;
      those = subst (λ (r : KeyRange). AreThose r sources own) (sym (ap (λ (p : Place). p.range) there ∙ at)) those;
      some = some;
    };
  };
}

module _ {T : Type 0} (f : T → TargetWithSources) (sources : List ShardRecord) (k : ℕ) (ranges : List KeyRange) (i : ℕ) (x : KeyRange) (made new : List T) (t : T) where
  pub made_next : i < length ranges → x ≡ get_or ranges i x → new ≡ made ++ t ∷ [] → map (λ t. (f t).0.place.range) made ≡ take i ranges
      → AllByRecursion (IsMadeOf sources k) (map f made) → IsMade sources k x (f t)
      → (map (λ t. (f t).0.place.range) new ≡ take (i + 1) ranges) × AllByRecursion (IsMadeOf sources k) (map f new)
  made_next there is grown so_far all one =
      let r : T → KeyRange = λ t. (f t).0.place.range in (
        ap (map r) grown ∙ map-append r made (t ∷ []) ∙ ap (λ (l : List KeyRange). l ++ r t ∷ []) so_far
            ∙ ap (λ (y : KeyRange). take i ranges ++ y ∷ []) (one.at ∙ is) ∙ sym (take_more ranges i x there),
        subst (λ (l : List T). AllByRecursion (IsMadeOf sources k) (map f l)) (sym grown)
            (subst (AllByRecursion (IsMadeOf sources k)) (sym (map-append f made (t ∷ [])))
            (AllByRecursion-push (IsMadeOf sources k) (map f made) (f t) all one.is)),
      )

pub seats_next : {T : Type 0} (v : T → Seat) (f : T → TargetWithSources) (made new : List T) (t : T) → new ≡ made ++ t ∷ [] → map v made ≡ map (λ t. seat_of t.0) (map f made)
    → v t ≡ seat_of (f t).0 → map v new ≡ map (λ t. seat_of t.0) (map f new)
seats_next {T} v f made new t grown so_far one =
    let g : TargetWithSources → Seat = λ t. seat_of t.0 in
    ap (map v) grown ∙ map-append v made (t ∷ []) ∙ ap (λ (l : List Seat). l ++ v t ∷ []) so_far ∙ ap (λ (x : Seat). map g (map f made) ++ x ∷ []) one
    ∙ sym (map-append g (map f made) (f t ∷ [])) ∙ ap (map g) (sym (map-append f made (t ∷ []))) ∙ ap (λ (l : List T). map g (map f l)) (sym grown)

-- ---- sources, one after the other

of_at : (parts : List Seat) (i : ℕ) (d : Seat) {k : ℕ} → i < length parts → AreOf k parts → (get_or parts i d).2 ≡ k
of_at [] i d l of = absurd (omega (arith, l))
of_at (x ∷ parts) zero d l of = of.0
of_at (x ∷ parts) (suc i) d l of = of_at parts i d (omega (arith, l)) of.1

module _ {S : Type 0} (which : S → ShardRecord) (o : Opening) (p q now : PassView Entry) (k : ℕ) (parts : List Seat) (i : ℕ) (part : Seat) (sources new : List S) (s : S) where
  pub picked_next : i < length parts → part ≡ get_or parts i part → AreOf k parts → new ≡ sources ++ s ∷ [] → IsSeenAt o q now k IsServing part (which s)
      → map {B = Seat} (λ s. ((which s).slot, (which s).place.range, (which s).place.keyspace)) sources ≡ take i parts → AllByRecursion (λ s. (which s).place.keyspace ≡ k) sources
      → (map {B = Seat} (λ s. ((which s).slot, (which s).place.range, (which s).place.keyspace)) new ≡ take (i + 1) parts) × AllByRecursion (λ s. (which s).place.keyspace ≡ k) new
  picked_next there is of grown picked so_far home =
      let here : part.2 ≡ k = subst (λ (x : Seat). x.2 ≡ k) (sym is) (of_at parts i part there of) in
      let r : S → Seat = λ s. ((which s).slot, (which s).place.range, (which s).place.keyspace) in
      let one : r s ≡ part = seat_is o q now k IsServing part (which s) here picked in (
        ap (map r) grown ∙ map-append r sources (s ∷ []) ∙ ap (λ (l : List Seat). l ++ r s ∷ []) so_far
            ∙ ap (λ (y : Seat). take i parts ++ y ∷ []) (one ∙ is) ∙ sym (take_more parts i part there),
        subst (AllByRecursion (λ s. (which s).place.keyspace ≡ k)) (sym grown)
            (AllByRecursion-push (λ s. (which s).place.keyspace ≡ k) sources s home (ap (λ (x : Place). x.keyspace) picked.place)),
      )

  -- the sources so far served
  pub served_next : new ≡ sources ++ s ∷ [] → IsPrefix p.seen q.seen → IsPrefix q.seen now.seen → IsSeenAt o q now k IsServing part (which s)
      → AllByRecursion (λ s. WasSeen o p q IsServing (which s)) sources → AllByRecursion (λ s. WasSeen o p now IsServing (which s)) new
  served_next grown before later picked so_far =
      subst (AllByRecursion (λ s. WasSeen o p now IsServing (which s))) (sym grown)
      (AllByRecursion-push (λ s. WasSeen o p now IsServing (which s)) sources s
      (all-weaker (λ s. WasSeen o p q IsServing (which s)) (λ s. WasSeen o p now IsServing (which s)) (λ s h. seen_until o p q now IsServing (which s) later h) sources so_far)
      (seen_since o p q now IsServing (which s) before picked.seen))
