-- What a merge of lists gives.
use Rattle.std.proofs.Common.{◌≡◌, ℕ, zero, suc, ◌+◌, ◌<◌, Bool, true, false, true≢false, if◌then◌else◌, List, [], ◌∷◌, ◌++◌, length, get_or, set, map, flat_map, Option, Some, None, IsPermutation, All, refl, sym, ap, subst, ◌∙◌, arith, append-nil}
use Rattle.std.specs.Cmp.{IsStrictWeakOrder}
use Rattle.std.specs.List.{AllByRecursion}
use Rattle.std.specs.List.Sorted.{IsSortedBy}
use Rattle.std.proofs.lemmas.List.Concat.{flat_map-cons}
use Rattle.std.proofs.lemmas.List.Elements.{recursion_from_All}
use Rattle.std.proofs.lemmas.List.Sorted.{sorted_far, IsPermutation-refl, IsPermutation-trans, IsPermutation-cons, IsPermutation-middle, IsPermutation-append_right}
use Rattle.operators.specs.inner.Merges.{merged_from, merged, all_merged, earlier}

-- what a list begins with
abbrev pub first_of : {X : Type 0} → List X → Option X
first_of [] = None
first_of (x ∷ xs) = Some x

module _ {X : Type 0} (lt : X → X → Bool) where
  merged_none : (xs : List X) → merged lt xs [] ≡ xs
  merged_none [] = refl
  merged_none (x ∷ xs) = refl

  from_first : (x y : X) (xs ys : List X) (rest : List X → List X) → lt y x ≡ true → merged_from lt x xs rest (y ∷ ys) ≡ y ∷ merged_from lt x xs rest ys
  from_first x y xs ys rest e = ap (λ b. if b then y ∷ merged_from lt x xs rest ys else x ∷ rest (y ∷ ys)) e

  from_second : (x y : X) (xs ys : List X) (rest : List X → List X) → lt y x ≡ false → merged_from lt x xs rest (y ∷ ys) ≡ x ∷ rest (y ∷ ys)
  from_second x y xs ys rest e = ap (λ b. if b then y ∷ merged_from lt x xs rest ys else x ∷ rest (y ∷ ys)) e

  -- no list begins with what comes before x
  abbrev AtLeast : X → List X → Type 0
  AtLeast x list = earlier lt (first_of list) (Some x) ≡ false

  least_of : (x y z : X) (ys zs more rest : List X) (b : Bool) → lt y x ≡ false → lt z x ≡ false → AtLeast x (if b then z ∷ more else y ∷ rest)
  least_of x y z ys zs more rest true p q = q
  least_of x y z ys zs more rest false p q = p

  both_least : (x : X) (list other : List X) → AtLeast x list → AtLeast x other → AtLeast x (merged lt list other)
  both_least x [] other p q = q
  both_least x (y ∷ ys) [] p q = p
  both_least x (y ∷ ys) (z ∷ zs) p q = least_of x y z ys zs (merged_from lt y ys (merged lt ys) zs) (merged lt ys (z ∷ zs)) (lt z y) p q

  all_least : (x : X) (lists : List (List X)) → ((j : ℕ) → j < length lists → AtLeast x (get_or lists j [])) → AtLeast x (all_merged lt lists)
  all_least x [] h = refl
  all_least x (list ∷ lists) h = both_least x list (all_merged lt lists) (h 0 (omega arith)) (all_least x lists (λ j less. h (suc j) (omega (arith, less))))

  taken_here : (x : X) (xs other : List X) → AtLeast x other → merged lt (x ∷ xs) other ≡ x ∷ merged lt xs other
  taken_here x xs [] p = ap (λ (l : List X). x ∷ l) (sym (merged_none xs))
  taken_here x xs (y ∷ ys) p = from_second x y xs ys (merged lt xs) p

  taken_after : (x : X) (list other : List X) → earlier lt (Some x) (first_of list) ≡ true → merged lt list (x ∷ other) ≡ x ∷ merged lt list other
  taken_after x [] other p = refl
  taken_after x (y ∷ ys) other p = from_first y x ys other (merged lt ys) p

  -- the first of the least is what a merge gives first
  pub all_taken : (lists : List (List X)) (ordinal : ℕ) (x : X) (xs : List X) → get_or lists ordinal [] ≡ x ∷ xs
      → ((j : ℕ) → j < ordinal → earlier lt (Some x) (first_of (get_or lists j [])) ≡ true)
      → ((j : ℕ) → ordinal < j → j < length lists → AtLeast x (get_or lists j []))
      → all_merged lt lists ≡ x ∷ all_merged lt (set lists ordinal xs)
  all_taken [] ordinal x xs here before trailing = cc
  all_taken (list ∷ lists) zero x xs here before trailing =
      ap (λ (l : List X). merged lt l (all_merged lt lists)) here
      ∙ taken_here x xs (all_merged lt lists) (all_least x lists (λ j less. trailing (suc j) (omega arith) (omega (arith, less))))
  all_taken (list ∷ lists) (suc ordinal) x xs here before trailing =
      ap (merged lt list) (all_taken lists ordinal x xs here (λ j less. before (suc j) (omega (arith, less))) (λ j more less. trailing (suc j) (omega (arith, more)) (omega (arith, less))))
      ∙ taken_after x list (all_merged lt (set lists ordinal xs)) (before 0 (omega arith))

  -- where the first of the least is none, nothing is left
  none_after : (b : Option X) → earlier lt b None ≡ false → (list : List X) → b ≡ first_of list → list ≡ []
  none_after b e [] same = refl
  none_after None e (y ∷ ys) same = cc
  none_after (Some x) e (y ∷ ys) same = absurd (true≢false e)

  pub all_ended : (lists : List (List X)) (ordinal : ℕ) → get_or lists ordinal [] ≡ []
      → ((j : ℕ) → j < ordinal → earlier lt None (first_of (get_or lists j [])) ≡ true)
      → ((j : ℕ) → ordinal < j → j < length lists → earlier lt (first_of (get_or lists j [])) None ≡ false)
      → all_merged lt lists ≡ []
  all_ended [] ordinal here before trailing = refl
  all_ended (list ∷ lists) (suc ordinal) here before trailing = absurd (true≢false (sym (before 0 (omega arith))))
  all_ended (list ∷ []) zero here before trailing = ap (λ (l : List X). merged lt l []) here
  all_ended (list ∷ next ∷ lists) zero here before trailing =
      ap (λ (l : List X). merged lt l (all_merged lt (next ∷ lists))) here
      ∙ all_ended (next ∷ lists) zero (none_after (first_of next) (trailing 1 (omega arith) (omega arith)) next refl) (λ j less. absurd (omega (arith, less)))
      (λ j more less. trailing (suc j) (omega arith) (omega (arith, less)))

  -- the merge has the elements of both lists
  from_both : (x : X) (xs : List X) (rest : List X → List X) → ((ys : List X) → IsPermutation (xs ++ ys) (rest ys)) → (ys : List X) → IsPermutation ((x ∷ xs) ++ ys) (merged_from lt x xs rest ys)
  from_both x xs rest h [] = subst (λ (l : List X). IsPermutation (x ∷ l) (x ∷ xs)) (sym (append-nil xs)) (IsPermutation-refl (x ∷ xs))
  from_both x xs rest h (y ∷ ys) = by (lt y x) (from_both x xs rest h ys)
    where
      by : (b : Bool) → IsPermutation ((x ∷ xs) ++ ys) (merged_from lt x xs rest ys) → IsPermutation ((x ∷ xs) ++ (y ∷ ys)) (if b then y ∷ merged_from lt x xs rest ys else x ∷ rest (y ∷ ys))
      by true more = IsPermutation-trans _ _ _ (IsPermutation-middle (x ∷ xs) y ys) (IsPermutation-cons y _ _ more)
      by false more = IsPermutation-cons x _ _ (h (y ∷ ys))

  of_both : (xs ys : List X) → IsPermutation (xs ++ ys) (merged lt xs ys)
  of_both [] ys = IsPermutation-refl ys
  of_both (x ∷ xs) ys = from_both x xs (merged lt xs) (of_both xs) ys

  pub of_all : {S : Type 0} (rows : S → List X) (inputs : List S) → IsPermutation (flat_map rows inputs) (all_merged lt (map rows inputs))
  of_all rows [] = IsPermutation-refl []
  of_all rows (s ∷ inputs) =
      subst (λ (l : List X). IsPermutation l (all_merged lt (map rows (s ∷ inputs)))) (sym (flat_map-cons rows s inputs))
      (IsPermutation-trans _ _ _ (IsPermutation-append_right (rows s) _ _ (of_all rows inputs)) (of_both (rows s) (all_merged lt (map rows inputs))))

-- sorted lists give a sorted one
module _ {X : Type 0} (lt : X → X → Bool) (order : IsStrictWeakOrder lt) where
  -- no element comes before x
  abbrev Above : X → List X → Type 0
  Above x xs = AllByRecursion (λ y. lt y x ≡ false) xs

  abbrev Up : List X → Type 0
  Up [] = Unit {0}
  Up (x ∷ xs) = Above x xs × Up xs

  above_at : (x : X) (xs : List X) → ((j : ℕ) (d : X) → j < length xs → lt (get_or xs j d) x ≡ false) → Above x xs
  above_at x [] h = tt
  above_at x (y ∷ ys) h = (h 0 y (omega arith), above_at x ys (λ j d less. h (suc j) d (omega (arith, less))))

  sorted_rest : (x : X) (xs : List X) → IsSortedBy lt (x ∷ xs) → IsSortedBy lt xs
  sorted_rest x xs s k d low within =
      let e : suc k + 1 ≡ suc (k + 1) = omega arith in
      let h : suc k + 1 < length (x ∷ xs) = omega (arith, within) in
      rw e at (s (suc k) d (omega arith) h)

  up_from_sorted : (xs : List X) → IsSortedBy lt xs → Up xs
  up_from_sorted [] s = tt
  up_from_sorted (x ∷ xs) s =
      (above_at x xs (λ j d less. sorted_far lt order (x ∷ xs) s 0 (suc j) d (omega arith) (omega (arith, less))), up_from_sorted xs (sorted_rest x xs s))

  sorted_from_up : (xs : List X) → Up xs → IsSortedBy lt xs
  sorted_from_up [] up k d low within = absurd (omega (arith, within))
  sorted_from_up (x ∷ []) up k d low within = absurd (omega (arith, within))
  sorted_from_up (x ∷ y ∷ ys) up zero d low within = up.0.0
  sorted_from_up (x ∷ y ∷ ys) up (suc k) d low within =
      let e : suc k + 1 ≡ suc (k + 1) = omega arith in
      rw e (sorted_from_up (y ∷ ys) up.1 k d (omega arith) (omega (arith, within)))

  above_lower : (x y : X) (xs : List X) → lt x y ≡ false → Above x xs → Above y xs
  above_lower x y [] le h = tt
  above_lower x y (z ∷ xs) le h = (order.chain z x y h.0 le, above_lower x y xs le h.1)

  above_from : (x : X) (xs : List X) (rest : List X → List X) → ((z : X) (ys : List X) → Above z xs → Above z ys → Above z (rest ys))
      → (z : X) (ys : List X) → Above z (x ∷ xs) → Above z ys → Above z (merged_from lt x xs rest ys)
  above_from x xs rest h z [] p q = p
  above_from x xs rest h z (y ∷ ys) p q = by (lt y x) (above_from x xs rest h z ys p q.1)
    where
      by : (b : Bool) → Above z (merged_from lt x xs rest ys) → Above z (if b then y ∷ merged_from lt x xs rest ys else x ∷ rest (y ∷ ys))
      by true more = (q.0, more)
      by false more = (p.0, h z (y ∷ ys) p.1 q)

  above_merged : (xs : List X) (z : X) (ys : List X) → Above z xs → Above z ys → Above z (merged lt xs ys)
  above_merged [] z ys p q = q
  above_merged (x ∷ xs) z ys p q = above_from x xs (merged lt xs) (above_merged xs) z ys p q

  up_from : (x : X) (xs : List X) → Up (x ∷ xs) → (rest : List X → List X) → ((z : X) (ys : List X) → Above z xs → Above z ys → Above z (rest ys))
      → ((ys : List X) → Up ys → Up (rest ys)) → (ys : List X) → Up ys → Up (merged_from lt x xs rest ys)
  up_from x xs up rest above h [] q = up
  up_from x xs up rest above h (y ∷ ys) q = by (lt y x) refl (up_from x xs up rest above h ys q.1)
    where
      by : (b : Bool) → lt y x ≡ b → Up (merged_from lt x xs rest ys) → Up (if b then y ∷ merged_from lt x xs rest ys else x ∷ rest (y ∷ ys))
      by true e more = let le = order.one_way y x e in (above_from x xs rest above y ys (le, above_lower x y xs le up.0) q.0, more)
      by false e more = (above x (y ∷ ys) up.0 (e, above_lower y x ys e q.0), h (y ∷ ys) q)

  up_merged : (xs ys : List X) → Up xs → Up ys → Up (merged lt xs ys)
  up_merged [] ys p q = q
  up_merged (x ∷ xs) ys p q = up_from x xs p (merged lt xs) (above_merged xs) (λ zs r. up_merged xs zs p.1 r) ys q

  all_up : {S : Type 0} (rows : S → List X) (inputs : List S) → AllByRecursion (λ s. IsSortedBy lt (rows s)) inputs → Up (all_merged lt (map rows inputs))
  all_up rows [] sorted = tt
  all_up rows (s ∷ inputs) sorted = up_merged (rows s) (all_merged lt (map rows inputs)) (up_from_sorted (rows s) sorted.0) (all_up rows inputs sorted.1)

  pub all_sorted : {S : Type 0} (rows : S → List X) (inputs : List S) → All (λ s. IsSortedBy lt (rows s)) inputs → IsSortedBy lt (all_merged lt (map rows inputs))
  all_sorted rows inputs sorted = sorted_from_up (all_merged lt (map rows inputs)) (all_up rows inputs (recursion_from_All (λ s. IsSortedBy lt (rows s)) inputs sorted))

  pub earlier_then : (a b c : Option X) → earlier lt a b ≡ true → earlier lt b c ≡ true → earlier lt a c ≡ true
  earlier_then None b c p q = absurd (true≢false (sym p))
  earlier_then (Some x) None c p q = absurd (true≢false (sym q))
  earlier_then (Some x) (Some y) None p q = refl
  earlier_then (Some x) (Some y) (Some z) p q = by (lt x z) refl
    where
      by : (b : Bool) → lt x z ≡ b → b ≡ true
      by true e = refl
      by false e = absurd (true≢false (sym p ∙ order.chain x z y e (order.one_way y z q)))

  -- what doesn't come before the second doesn't come before the first
  pub earlier_than : (a b c : Option X) → earlier lt a b ≡ true → earlier lt c b ≡ false → earlier lt a c ≡ true
  earlier_than None b c p q = absurd (true≢false (sym p))
  earlier_than (Some x) b None p q = refl
  earlier_than (Some x) None (Some z) p q = absurd (true≢false q)
  earlier_than (Some x) (Some y) (Some z) p q = by (lt x z) refl
    where
      by : (b : Bool) → lt x z ≡ b → b ≡ true
      by true e = refl
      by false e = absurd (true≢false (sym p ∙ order.chain x z y e q))
