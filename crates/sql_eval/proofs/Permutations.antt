-- Lists in another order, and what they are mapped to.
use Rattle.std.proofs.Common.{◌≡◌, ℕ, zero, suc, ◌<◌, Bool, true, false, cond, List, [], ◌∷◌, ◌++◌, length, get_or, set, filter, flat_map, IsPermutation, refl, sym, ap, subst, arith}
use Rattle.std.specs.List.{swap}
use Rattle.std.proofs.lemmas.List.{append_assoc, get_or_default}
use Rattle.std.proofs.lemmas.List.Sorted.{IsPermutation-refl, IsPermutation-sym, IsPermutation-trans, IsPermutation-keeps, IsPermutation-append_left, IsPermutation-append_right, IsPermutation-append_comm}

module _ {X A : Type 0} (f : X → List A) where
  -- what an element gives, taken to the front
  record Cut (xs : List X) (i : ℕ) (x y : X) : Type 0 where
    rest : List A
    old : IsPermutation (flat_map f xs) (f x ++ rest)
    new : IsPermutation (flat_map f (set xs i y)) (f y ++ rest)

  -- the pieces of two elements change places
  flipped : (a b rest : List A) → IsPermutation (a ++ (b ++ rest)) (b ++ (a ++ rest))
  flipped a b rest =
      subst (λ l. IsPermutation l (b ++ (a ++ rest))) (append_assoc a b rest)
      (subst (IsPermutation ((a ++ b) ++ rest)) (append_assoc b a rest) (IsPermutation-append_left rest (a ++ b) (b ++ a) (IsPermutation-append_comm a b)))

  cut : (xs : List X) (i : ℕ) (x y : X) → i < length xs → x ≡ get_or xs i x → Cut xs i x y
  cut [] i x y l e = absurd (omega (arith, l))
  cut (z ∷ xs) zero x y l e = record {
    rest = flat_map f xs;
    old = subst (λ u. IsPermutation (f z ++ flat_map f xs) (f u ++ flat_map f xs)) (sym e) (IsPermutation-refl (f z ++ flat_map f xs));
    new = IsPermutation-refl (f y ++ flat_map f xs);
  }
  cut (z ∷ xs) (suc i) x y l e =
      let c = cut xs i x y (omega (arith, l)) e in
      record {
        rest = f z ++ c.rest;
        old = IsPermutation-trans _ _ _ (IsPermutation-append_right (f z) (flat_map f xs) (f x ++ c.rest) c.old) (flipped (f z) (f x) c.rest);
        new = IsPermutation-trans _ _ _ (IsPermutation-append_right (f z) (flat_map f (set xs i y)) (f y ++ c.rest) c.new) (flipped (f z) (f y) c.rest);
      }

  -- the first element changes places with another
  first_swapped : (z : X) (xs : List X) (i : ℕ) (x : X) → i < length xs → x ≡ get_or xs i x
      → IsPermutation (flat_map f (z ∷ xs)) (flat_map f (x ∷ set xs i z))
  first_swapped z xs i x l e =
      let c = cut xs i x z l e in
      IsPermutation-trans _ _ _ (IsPermutation-append_right (f z) (flat_map f xs) (f x ++ c.rest) c.old)
      (IsPermutation-trans _ _ _ (flipped (f z) (f x) c.rest)
      (IsPermutation-append_right (f x) (f z ++ c.rest) (flat_map f (set xs i z)) (IsPermutation-sym _ _ c.new)))

  -- two elements change places
  swapped : (xs : List X) (i j : ℕ) (x y : X) → i < length xs → j < length xs → x ≡ get_or xs i x → y ≡ get_or xs j y
      → IsPermutation (flat_map f xs) (flat_map f (set (set xs i y) j x))
  swapped [] i j x y l m e g = absurd (omega (arith, l))
  swapped (z ∷ xs) zero zero x y l m e g = subst (λ u. IsPermutation (f z ++ flat_map f xs) (f u ++ flat_map f xs)) (sym e) (IsPermutation-refl (f z ++ flat_map f xs))
  swapped (z ∷ xs) zero (suc j) x y l m e g =
      subst (λ u. IsPermutation (f z ++ flat_map f xs) (flat_map f (y ∷ set xs j u))) (sym e) (first_swapped z xs j y (omega (arith, m)) g)
  swapped (z ∷ xs) (suc i) zero x y l m e g =
      subst (λ u. IsPermutation (f z ++ flat_map f xs) (flat_map f (x ∷ set xs i u))) (sym g) (first_swapped z xs i x (omega (arith, l)) e)
  swapped (z ∷ xs) (suc i) (suc j) x y l m e g =
      IsPermutation-append_right (f z) (flat_map f xs) (flat_map f (set (set xs i y) j x)) (swapped xs i j x y (omega (arith, l)) (omega (arith, m)) e g)

  step : (l : List X) (i j : ℕ) → i < length l → j < length l → IsPermutation (flat_map f l) (flat_map f (swap l i j))
  step [] i j p q = absurd (omega (arith, p))
  step (d ∷ xs) i j p q =
      swapped (d ∷ xs) i j (get_or (d ∷ xs) i d) (get_or (d ∷ xs) j d) p q (get_or_default (d ∷ xs) i d (get_or (d ∷ xs) i d) p)
      (get_or_default (d ∷ xs) j d (get_or (d ∷ xs) j d) q)

  pub IsPermutation-flat_map : (xs ys : List X) → IsPermutation xs ys → IsPermutation (flat_map f xs) (flat_map f ys)
  IsPermutation-flat_map xs ys h =
      IsPermutation-keeps xs (λ l. IsPermutation (flat_map f xs) (flat_map f l)) (IsPermutation-refl (flat_map f xs))
      (λ l i j p q so_far. IsPermutation-trans _ _ _ so_far (step l i j p q)) ys h

module _ {X : Type 0} (p : X → Bool) where
  abbrev kept : X → List X
  kept x = cond (p x) (x ∷ []) []

  filter-flat_map : (xs : List X) → flat_map kept xs ≡ filter p xs
  filter-flat_map [] = refl
  filter-flat_map (x ∷ xs) = by (p x) (filter-flat_map xs)
    where
      by : (b : Bool) → flat_map kept xs ≡ filter p xs → cond b (x ∷ []) [] ++ flat_map kept xs ≡ cond b (x ∷ filter p xs) (filter p xs)
      by true e = ap (λ z. x ∷ z) e
      by false e = e

  pub IsPermutation-filter : (xs ys : List X) → IsPermutation xs ys → IsPermutation (filter p xs) (filter p ys)
  IsPermutation-filter xs ys h =
      subst (λ l. IsPermutation l (filter p ys)) (filter-flat_map xs)
      (subst (IsPermutation (flat_map kept xs)) (filter-flat_map ys) (IsPermutation-flat_map kept xs ys h))
