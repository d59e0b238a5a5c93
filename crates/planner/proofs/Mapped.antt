-- Arrangements and slices of a mapped list are those of the list.
use Rattle.std.proofs.Common.{◌≡◌, ℕ, ◌+◌, ◌<◌, Bool, List, [], ◌∷◌, length, get_or, set, map, take, drop, IsPermutation, Option, Some, None, refl, sym, ap, ◌∙◌, arith}
use Rattle.std.specs.List.{swap}
use Rattle.std.specs.List.Sorted.{IsSortedBy}
use Rattle.std.proofs.Math.ListN.{get_or-map}
use Rattle.std.proofs.lemmas.List.{map-set, length-map, take-map, drop-map}
use Rattle.std.proofs.lemmas.List.Sorted.{IsPermutation-refl, IsPermutation-trans, IsPermutation-swap, IsPermutation-keeps}
use Rattle.sql_tree.specs.declared.LimitClause.{LimitClause}
use Rattle.operators.specs.Slices.{sliced}

pub map_both : {X Y Z : Type 0} (f : Y → Z) (g : X → Y) (h : X → Z) → ((x : X) → f (g x) ≡ h x) → (xs : List X) → map f (map g xs) ≡ map h xs
map_both f g h same [] = refl
map_both f g h same (x ∷ xs) = λ i. same x i ∷ map_both f g h same xs i

module _ {X Y : Type 0} (f : X → Y) where
  pub sliced-map : (limit : Option LimitClause) (xs : List X) → sliced limit (map f xs) ≡ map f (sliced limit xs)
  sliced-map None xs = refl
  sliced-map (Some l) xs = ap (take l.count) (drop-map f l.offset xs) ∙ take-map f l.count (drop l.offset xs)

  swap-map : (xs : List X) (i j : ℕ) → swap (map f xs) i j ≡ map f (swap xs i j)
  swap-map [] i j = refl
  swap-map (d ∷ xs) i j =
      (λ k. set (set (map f (d ∷ xs)) i (get_or-map f (d ∷ xs) j d k)) j (get_or-map f (d ∷ xs) i d k))
      ∙ ap (λ l. set l j (f (get_or (d ∷ xs) i d))) (sym (map-set f (d ∷ xs) i (get_or (d ∷ xs) j d)))
      ∙ sym (map-set f (set (d ∷ xs) i (get_or (d ∷ xs) j d)) j (get_or (d ∷ xs) i d))

  -- an arrangement of the mapped list is one of the list, mapped
  pub record Arranged (xs : List X) (ys : List Y) : Type 0 where
    pub arranged : List X
    pub all : IsPermutation xs arranged
    pub is : ys ≡ map f arranged

  pub arranged_map : (xs : List X) (ys : List Y) → IsPermutation (map f xs) ys → Arranged xs ys
  arranged_map xs ys h =
      IsPermutation-keeps (map f xs) (Arranged xs) (record { arranged = xs; all = IsPermutation-refl xs; is = refl })
      (λ l i j p q a.
      let len : length (map f a.arranged) ≡ length a.arranged = length-map a.arranged f in
      let same : length l ≡ length a.arranged = ap length a.is ∙ len in
      let i_in : i < length a.arranged = omega (arith, p, same) in
      let j_in : j < length a.arranged = omega (arith, q, same) in
      record {
        arranged = swap a.arranged i j;
        all = IsPermutation-trans xs a.arranged (swap a.arranged i j) a.all (IsPermutation-swap a.arranged (swap a.arranged i j) i j i_in j_in refl);
        is = ap (λ m. swap m i j) a.is ∙ swap-map a.arranged i j;
      })
      ys h

  pub sorted_unmapped : (ltx : X → X → Bool) (lty : Y → Y → Bool) → ((a b : X) → lty (f a) (f b) ≡ ltx a b) → (xs : List X) → IsSortedBy lty (map f xs) → IsSortedBy ltx xs
  sorted_unmapped ltx lty same xs s k d low within =
      let len : length (map f xs) ≡ length xs = length-map xs f in
      let next : k + 1 < length (map f xs) = omega (arith, len, within) in
      sym (same (get_or xs (k + 1) d) (get_or xs k d))
      ∙ (λ i. lty (sym (get_or-map f xs (k + 1) d) i) (sym (get_or-map f xs k d) i)) ∙ s k (f d) low next

  pub sorted_mapped : (ltx : X → X → Bool) (lty : Y → Y → Bool) → ((a b : X) → lty (f a) (f b) ≡ ltx a b) → (xs : List X) → IsSortedBy ltx xs → IsSortedBy lty (map f xs)
  sorted_mapped ltx lty same [] s k d low within = absurd (omega (arith, within))
  sorted_mapped ltx lty same (x ∷ xs) s k d low within =
      let len : length (map f (x ∷ xs)) ≡ length (x ∷ xs) = length-map (x ∷ xs) f in
      let next : k + 1 < length (x ∷ xs) = omega (arith, len, within) in
      let this : k < length (x ∷ xs) = omega (arith, next) in
      (λ i. lty (at (x ∷ xs) (k + 1) x d next i) (at (x ∷ xs) k x d this i)) ∙ same (get_or (x ∷ xs) (k + 1) x) (get_or (x ∷ xs) k x) ∙ s k x low next
    where
      at : (zs : List X) (n : ℕ) (e : X) (d : Y) → n < length zs → get_or (map f zs) n d ≡ f (get_or zs n e)
      at zs n e d h = Rattle.std.proofs.lemmas.List.get_or-map f zs n e d h
