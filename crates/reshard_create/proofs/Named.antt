-- Parts told apart one after the other.
use Rattle.std.proofs.Common.{◌≡◌, ℕ, zero, suc, ◌+◌, ◌<◌, ◌≤◌, Bool, true, false, cond, ◌⊎◌, inl, inr, List, [], ◌∷◌, ◌++◌, length, take, get_or, count_by, refl, sym, ap, ◌∙◌, subst, arith}
use Rattle.std.specs.Prelude.{Contains, nat_eq, ◌&&◌, Option, Some, None}
use Rattle.std.specs.List.{AllByRecursion}
use Rattle.std.proofs.lemmas.List.{take_more}
use Rattle.keyrange.specs.declared.KeyRange.{KeyRange}
use Rattle.keyrange.specs.Ranges.{Overlap}
use Rattle.std.specs.Option.{option_eq}
use Rattle.std.specs.Cmp.Lexicographic.{pointwise}
use Rattle.std.proofs.lemmas.Bool.{eq-eqb, false≢true}
use Rattle.serving.specs.Partitions.{Seat}
use Rattle.reshard_create.specs.inner.Created.{AreNamed}
use Rattle.reshard_create.proofs.split.Lists.{all_push}
use Rattle.reshard_create.proofs.split.Counting.{counted-cons, counted-append}

one_more : {X : Type 0} (p : X → Bool) (xs : List X) (x : X) → count_by p (xs ++ x ∷ []) ≡ count_by p xs + cond (p x) 1 0
one_more p xs x =
    let h = counted-append p xs (x ∷ []) in
    let k = counted-cons p x [] in
    omega (arith, h, k)

module _ (ranges : List KeyRange) (parts : List Seat) (i : ℕ) (x : Seat) (there : i < length parts) (is : x ≡ get_or parts i x) (taken rest : List Seat)
    (were : AreNamed ranges (take i parts) taken rest) where
  more : take (i + 1) parts ≡ take i parts ++ x ∷ []
  more = take_more parts i x there ∙ ap (λ (y : Seat). take i parts ++ y ∷ []) (sym is)

  pub taken_next : Contains ranges x.1 → AreNamed ranges (take (i + 1) parts) (taken ++ x ∷ []) rest
  taken_next h = record {
    named = all_push (λ (s : Seat). Contains ranges s.1) taken x were.named h;
    not_named = were.not_named;
    all = λ p.
        let a = ap (count_by p) more in
        let b = one_more p (take i parts) x in
        let c = one_more p taken x in
        let d = were.all p in
        omega (arith, a, b, c, d);
  }

  pub rest_next : (Contains ranges x.1 → ⊥) → AreNamed ranges (take (i + 1) parts) taken (rest ++ x ∷ [])
  rest_next h = record {
    named = were.named;
    not_named = all_push (λ (s : Seat). Contains ranges s.1 → ⊥) rest x were.not_named h;
    all = λ p.
        let a = ap (count_by p) more in
        let b = one_more p (take i parts) x in
        let c = one_more p rest x in
        let d = were.all p in
        omega (arith, a, b, c, d);
  }

  pub named_next : (b : Bool) (taken' rest' : List Seat) → (b ≡ true → Contains ranges x.1) → (b ≡ false → Contains ranges x.1 → ⊥)
      → (b ≡ true → (taken' ≡ taken ++ x ∷ []) × (rest' ≡ rest)) → (b ≡ false → (taken' ≡ taken) × (rest' ≡ rest ++ x ∷ []))
      → AreNamed ranges (take (i + 1) parts) taken' rest'
  named_next true taken' rest' aye nay one other =
      let w = one refl in
      subst (λ l. AreNamed ranges (take (i + 1) parts) l rest') (sym w.0) (subst (AreNamed ranges (take (i + 1) parts) (taken ++ x ∷ [])) (sym w.1) (taken_next (aye refl)))
  named_next false taken' rest' aye nay one other =
      let w = other refl in
      subst (λ l. AreNamed ranges (take (i + 1) parts) l rest') (sym w.0) (subst (AreNamed ranges (take (i + 1) parts) taken) (sym w.1) (rest_next (nay refl)))

-- those that are named are among all
pub taken_among_next : (parts : List Seat) (i : ℕ) (x : Seat) → i < length parts → x ≡ get_or parts i x → (taken taken' : List Seat) (b : Bool)
    → AllByRecursion (Contains parts) taken → (b ≡ true → taken' ≡ taken ++ x ∷ []) → (b ≡ false → taken' ≡ taken)
    → AllByRecursion (Contains parts) taken'
taken_among_next parts i x there is taken taken' true all one other =
    subst (AllByRecursion (Contains parts)) (sym (one refl)) (all_push (Contains parts) taken x all (i, there, sym is))
taken_among_next parts i x there is taken taken' false all one other = subst (AllByRecursion (Contains parts)) (sym (other refl)) all

-- those that aren't named are among all
pub among_next : (parts : List Seat) (i : ℕ) (x : Seat) → i < length parts → x ≡ get_or parts i x → (rest rest' : List Seat) (b : Bool)
    → AllByRecursion (Contains parts) rest → (b ≡ true → rest' ≡ rest) → (b ≡ false → rest' ≡ rest ++ x ∷ []) → AllByRecursion (Contains parts) rest'
among_next parts i x there is rest rest' true all one other = subst (AllByRecursion (Contains parts)) (sym (one refl)) all
among_next parts i x there is rest rest' false all one other =
    subst (AllByRecursion (Contains parts)) (sym (other refl)) (all_push (Contains parts) rest x all (i, there, sym is))

-- ---- ranges that don't overlap

all_get : {X : Type 0} (P : X → Type 0) (xs : List X) (a : ℕ) (d : X) → a < length xs → AllByRecursion P xs → P (get_or xs a d)
all_get P [] a d l all = absurd (omega (arith, l))
all_get P (x ∷ xs) zero d l all = all.0
all_get P (x ∷ xs) (suc a) d l all = all_get P xs a d (omega (arith, l)) all.1

get_front : {X : Type 0} (xs : List X) (n a : ℕ) (d : X) → a < n → n ≤ length xs → (get_or (take n xs) a d ≡ get_or xs a d) × (a < length (take n xs))
get_front [] n a d l m = absurd (omega (arith, l, m))
get_front (x ∷ xs) zero a d l m = absurd (omega (arith, l))
get_front (x ∷ xs) (suc n) zero d l m = (refl, omega arith)
get_front (x ∷ xs) (suc n) (suc a) d l m = let w = get_front xs n a d (omega (arith, l)) (omega (arith, m)) in let h = w.1 in (w.0, omega (arith, h))

all_front : {X : Type 0} (P : X → Type 0) (xs : List X) (n : ℕ) → ((a : ℕ) (d : X) → a < n → a < length xs → P (get_or xs a d)) → AllByRecursion P (take n xs)
all_front P xs zero f = tt
all_front P [] (suc n) f = tt
all_front P (x ∷ xs) (suc n) f = (f 0 x (omega arith) (omega arith), all_front P xs n (λ a d l m. f (suc a) d (omega (arith, l)) (omega (arith, m))))

get_default : {X : Type 0} (xs : List X) (a : ℕ) (d e : X) → a < length xs → get_or xs a d ≡ get_or xs a e
get_default [] a d e l = absurd (omega (arith, l))
get_default (x ∷ xs) zero d e l = refl
get_default (x ∷ xs) (suc a) d e l = get_default xs a d e (omega (arith, l))

module _ (ranges : List KeyRange) (i : ℕ) (r : KeyRange) (there : i < length ranges) (is : r ≡ get_or ranges i r) where
  pub apart_more : ((a b : ℕ) (d : KeyRange) → a < b → b < i → Overlap (get_or ranges a d) (get_or ranges b d) → ⊥)
      → AllByRecursion (λ other. Overlap other r → ⊥) (take i ranges)
      → (a b : ℕ) (d : KeyRange) → a < b → b < i + 1 → Overlap (get_or ranges a d) (get_or ranges b d) → ⊥
  apart_more so_far all a b d before within h = by (Rattle.std.proofs.lemmas.Bool.cases_order b i)
    where
      by : (b ≡ i) ⊎ ((b < i) ⊎ (i < b)) → ⊥
      by (inl e) =
          let w = get_front ranges i a d (omega (arith, before, e)) (omega (arith, there)) in
          let one : Overlap (get_or (take i ranges) a d) r → ⊥ = all_get (λ other. Overlap other r → ⊥) (take i ranges) a d w.1 all in
          one (subst (λ x. Overlap x r) (sym w.0) (subst (λ x. Overlap (get_or ranges a d) x) (ap (λ k. get_or ranges k d) e ∙ get_default ranges i d r there ∙ sym is) h))
      by (inr (inl l)) = so_far a b d before l h
      by (inr (inr l)) = absurd (omega (arith, l, within))

  pub apart_here : ((a b : ℕ) (d : KeyRange) → a < b → b < length ranges → Overlap (get_or ranges a d) (get_or ranges b d) → ⊥)
      → AllByRecursion (λ other. Overlap other r → ⊥) (take i ranges)
  apart_here apart =
      all_front (λ other. Overlap other r → ⊥) ranges i
      (λ a d l m h. apart a i d l there (subst (λ x. Overlap (get_or ranges a d) x) (is ∙ get_default ranges i r d there) h))

-- ---- equal ranges

same_list : (xs : List ℕ) → pointwise nat_eq xs xs ≡ true
same_list [] = refl
same_list (x ∷ xs) = let e : nat_eq x x ≡ true = eq-eqb x x refl in ap (λ b. b && pointwise nat_eq xs xs) e ∙ same_list xs

same_end : (e : Option (List ℕ)) → option_eq (pointwise nat_eq) e e ≡ true
same_end None = refl
same_end (Some xs) = same_list xs

pub differs : (a b : KeyRange) → false ≡ (pointwise nat_eq a.begin b.begin && option_eq (pointwise nat_eq) a.end b.end) → a ≡ b → ⊥
differs a b e same =
    let k : false ≡ (pointwise nat_eq b.begin b.begin && option_eq (pointwise nat_eq) b.end b.end) =
    subst (λ (r : KeyRange). false ≡ (pointwise nat_eq r.begin b.begin && option_eq (pointwise nat_eq) r.end b.end)) same e in
    false≢true (k ∙ ap (λ c. c && option_eq (pointwise nat_eq) b.end b.end) (same_list b.begin) ∙ same_end b.end)
