-- Ranges that hold each edge and the empty id once hold every id once: an id lies where the greatest edge up to it lies.
use Rattle.std.proofs.Common.{◌≡◌, ℕ, suc, ◌+◌, ◌<◌, Bool, true, false, cond, List, [], ◌∷◌, ◌++◌, ◌==◌, Option, Some, None, option_to_list, IfSome, IsTrue, count_by, slice_index_or, MatchBool, ◌↔◌, length, refl, sym, ap, ◌∙◌, arith, eq-eqb}
use Rattle.std.specs.List.{fold, AllByRecursion, AllWithin, HoldsAt}
use Rattle.std.proofs.lemmas.Bool.{eqb-true, false≢true, true≢false, and_parts, and_from}
use Rattle.keyrange.specs.declared.KeyRange.{KeyRange}
use Rattle.keyrange.specs.Ranges.{is_before, is_before_end, has_id, IsByteString, Cover}
use Rattle.keyrange.specs.inner.Covers.{is_in_one, is_end_in_one, has_edges_in_one, HasByteEdges}
use Rattle.keyrange.proofs.Order.{one_way, up, itself, below, never_before}

all_join : {X : Type 0} (P : X → Type 0) (xs ys : List X) → AllByRecursion P xs → AllByRecursion P ys → AllByRecursion P (xs ++ ys)
all_join P [] ys a b = b
all_join P (x ∷ xs) ys a b = (a.0, all_join P xs ys a.1 b)

all_split : {X : Type 0} (P : X → Type 0) (xs ys : List X) → AllByRecursion P (xs ++ ys) → AllByRecursion P xs × AllByRecursion P ys
all_split P [] ys a = (tt, a)
all_split P (x ∷ xs) ys a = let b = all_split P xs ys a.1 in ((a.0, b.0), b.1)

-- the edges of the ranges
edges : List KeyRange → List (List ℕ)
edges [] = []
edges (r ∷ rs) = r.begin ∷ option_to_list r.end ++ edges rs

-- the greatest of some ids that is not above an id
record Best (P : List ℕ → Type 0) (x start : List ℕ) (seen : List (List ℕ)) : Type 0 where
  best : List ℕ
  good : P best
  from_start : is_before best start ≡ false
  up_to : is_before x best ≡ false
  greatest : AllByRecursion (λ e. is_before x e ≡ false → is_before best e ≡ false) seen

best_of : (P : List ℕ → Type 0) (x : List ℕ) (seen : List (List ℕ)) → AllByRecursion P seen → (start : List ℕ) → P start
    → is_before x start ≡ false → Best P x start seen
best_of P x [] a start s h = record { best = start; good = s; from_start = itself start; up_to = h; greatest = tt }
best_of P x (e ∷ seen) a start s h =
    by (best_of P x seen a.1 e a.0) (best_of P x seen a.1 start s h) (is_before x e) refl (is_before start e) refl
  where
    by : (is_before x e ≡ false → Best P x e seen) → Best P x start seen → (b : Bool) → is_before x e ≡ b
        → (c : Bool) → is_before start e ≡ c → Best P x start (e ∷ seen)
    by f g true i c j =
        record {
          best = g.best;
          good = g.good;
          from_start = g.from_start;
          up_to = g.up_to;
          greatest = (λ k. absurd (true≢false (sym i ∙ k)), g.greatest);
        }
    by f g false i true j =
        let r = f i in
        record {
          best = r.best;
          good = r.good;
          from_start = up start e r.best (one_way start e j) r.from_start;
          up_to = r.up_to;
          greatest = (λ k. r.from_start, r.greatest);
        }
    by f g false i false j =
        record {
          best = g.best;
          good = g.good;
          from_start = g.from_start;
          up_to = g.up_to;
          greatest = (λ k. up e start g.best j g.from_start, g.greatest);
        }

-- an edge is before both or before neither
same_side : (x best e : List ℕ) → is_before x best ≡ false → (is_before x e ≡ false → is_before best e ≡ false)
    → is_before x e ≡ is_before best e
same_side x best e up_to h = by (is_before x e) refl
  where
    by : (t : Bool) → is_before x e ≡ t → is_before x e ≡ is_before best e
    by true i = i ∙ sym (below best x e up_to i)
    by false i = i ∙ sym (h i)

same_end : (x best : List ℕ) (end : Option (List ℕ)) → is_before x best ≡ false
    → AllByRecursion (λ e. is_before x e ≡ false → is_before best e ≡ false) (option_to_list end)
    → is_before_end x end ≡ is_before_end best end
same_end x best None up_to a = refl
same_end x best (Some end) up_to a = same_side x best end up_to a.0

-- so a range holds both or neither
same_ranges : (x best : List ℕ) → is_before x best ≡ false → (ranges : List KeyRange)
    → AllByRecursion (λ e. is_before x e ≡ false → is_before best e ≡ false) (edges ranges)
    → AllByRecursion (λ r. has_id r x ≡ has_id r best) ranges
unfolding edges
same_ranges x best up_to [] a = tt
same_ranges x best up_to (r ∷ rs) a =
    let s = all_split (λ (e : List ℕ). is_before x e ≡ false → is_before best e ≡ false) (option_to_list r.end) (edges rs) a.1 in
    let b : is_before x r.begin ≡ is_before best r.begin = same_side x best r.begin up_to a.0 in
    let e : is_before_end x r.end ≡ is_before_end best r.end = same_end x best r.end up_to s.0 in
    (cc, same_ranges x best up_to rs s.1)

same_count : (p q : KeyRange → Bool) (n : ℕ) (ranges : List KeyRange) → AllByRecursion (λ r. p r ≡ q r) ranges
    → fold (λ k r. k + cond (p r) 1 0) n ranges ≡ fold (λ k r. k + cond (q r) 1 0) n ranges
same_count p q n [] a = refl
same_count p q n (r ∷ rs) a =
    ap (λ b. fold (λ k r. k + cond (p r) 1 0) (n + cond b 1 0) rs) a.0 ∙ same_count p q (n + cond (q r) 1 0) rs a.1

edges_in_one : (ranges some : List KeyRange) → AllByRecursion (λ r. has_edges_in_one ranges r ≡ true) some
    → AllByRecursion (λ e. is_in_one ranges e ≡ true) (edges some)
unfolding edges
edges_in_one ranges [] a = tt
edges_in_one ranges (r ∷ rs) a =
    let p = and_parts (is_in_one ranges r.begin) (is_end_in_one ranges r.end) a.0 in
    (p.0, all_join (λ (e : List ℕ). is_in_one ranges e ≡ true) (option_to_list r.end) (edges rs) (at r.end p.1) (edges_in_one ranges rs a.1))
  where
    at : (end : Option (List ℕ)) → is_end_in_one ranges end ≡ true → AllByRecursion (λ e. is_in_one ranges e ≡ true) (option_to_list end)
    at None h = tt
    at (Some e) h = (h, tt)

is_one : (n : ℕ) → (n == 1) ≡ true → n ≡ 1
is_one n h = eqb-true n 1 h

pub cover : (ranges : List KeyRange) → is_in_one ranges [] ≡ true → AllByRecursion (λ r. has_edges_in_one ranges r ≡ true) ranges
    → Cover ranges
cover ranges h a id bytes =
    let b = best_of (λ e. is_in_one ranges e ≡ true) id (edges ranges) (edges_in_one ranges ranges a) [] h (never_before id) in
    same_count (λ r. has_id r id) (λ r. has_id r b.best) 0 ranges (same_ranges id b.best b.up_to ranges b.greatest)
    ∙ is_one (count_by (λ r. has_id r b.best) ranges) b.good

-- an edge that isn't in exactly one range shows that there is no cover
pub no_cover : (ranges : List KeyRange) (r : KeyRange) → HasByteEdges r → has_edges_in_one ranges r ≡ false → Cover ranges → ⊥
no_cover ranges r h e cover = true≢false (sym (and_from (is_in_one ranges r.begin) (is_end_in_one ranges r.end)
    (eq-eqb (count_by (λ s. has_id s r.begin) ranges) 1 (cover r.begin h.0)) (at r.end h.1)) ∙ e)
  where
    at : (end : Option (List ℕ)) → IfSome end IsByteString → is_end_in_one ranges end ≡ true
    at None g = refl
    at (Some e) g = eq-eqb (count_by (λ s. has_id s e) ranges) 1 (cover e g)

abbrev pub IsGood : List KeyRange → KeyRange → Type 0
IsGood ranges r = has_edges_in_one ranges r ≡ true

abbrev pub IsBad : List KeyRange → KeyRange → Type 0
IsBad ranges r = HasByteEdges r × (has_edges_in_one ranges r ≡ false)

all_recursive : {X : Type 0} (P : X → Type 0) (xs : List X) → AllWithin P xs 0 (length xs) → AllByRecursion P xs
all_recursive P [] a = tt
all_recursive P (x ∷ xs) a = (a 0 x (omega arith) (omega arith), all_recursive P xs (λ k d l h. a (suc k) d (omega arith) (omega arith)))

-- what the test of all ranges answers, where the empty id is in one
pub covers : (ranges : List KeyRange) (t : Bool) → is_in_one ranges [] ≡ true
    → MatchBool t (AllWithin (IsGood ranges) ranges 0 (length ranges)) ((k : ℕ) × (k < length ranges) × HoldsAt (IsBad ranges) ranges k)
    → IsTrue t ↔ Cover ranges
covers ranges true h a = (λ _. cover ranges h (all_recursive (IsGood ranges) ranges a), λ _. refl)
covers ranges false h w = (λ e. absurd (false≢true e), λ c. absurd (by (w.2 (record { begin = []; end = None })) c))
  where
    by : IsBad ranges (slice_index_or ranges w.0 (record { begin = []; end = None })) → Cover ranges → ⊥
    by bad c = no_cover ranges (slice_index_or ranges w.0 (record { begin = []; end = None })) bad.0 bad.1 c

pub empty_uncovered : (ranges : List KeyRange) (t : Bool) → is_in_one ranges [] ≡ false → t ≡ false → IsTrue t ↔ Cover ranges
empty_uncovered ranges t h e =
    (λ i. absurd (false≢true (sym e ∙ i)), λ c. absurd (true≢false (sym (eq-eqb (count_by (λ r. has_id r []) ranges) 1 (c [] refl)) ∙ h)))
