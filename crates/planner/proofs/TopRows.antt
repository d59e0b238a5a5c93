-- The first rows of several sorted lists suffice for the first rows of a sorted arrangement of all.
use Rattle.std.proofs.Common.{◌≡◌, ℕ, zero, suc, ◌+◌, ◌<◌, ◌≤◌, Bool, true, false, cond, List, [], ◌∷◌, ◌++◌, length, get_or, take, drop, flat_map, count_by, IsPermutation, refl, sym, ap, subst, ◌∙◌, arith, append_assoc}
use Rattle.std.specs.Prelude.{not}
use Rattle.std.specs.Cmp.{IsStrictWeakOrder}
use Rattle.std.specs.List.{AllByRecursion}
use Rattle.std.specs.List.Sorted.{IsSortedBy}
use Rattle.std.proofs.lemmas.List.{take-append-drop}
use Rattle.std.proofs.lemmas.List.Sums.{sum_by-append}
use Rattle.std.proofs.lemmas.List.Sorted.{sorted_far, IsPermutation-refl, IsPermutation-sym, IsPermutation-trans, IsPermutation-cons, IsPermutation-middle, IsPermutation-append_left, IsPermutation-append_right, IsPermutation-append_comm, sum_by-IsPermutation}

pub all_at : {X : Type 0} (P : X → Type 0) (xs : List X) → ((j : ℕ) (d : X) → j < length xs → P (get_or xs j d)) → AllByRecursion P xs
all_at P [] f = tt
all_at P (x ∷ xs) f = (f 0 x (omega arith), all_at P xs (λ j d less. f (suc j) d (omega (arith, less))))

pub all_dropped : {X : Type 0} (P : X → Type 0) (n : ℕ) (xs : List X) → AllByRecursion P xs → AllByRecursion P (drop n xs)
all_dropped P zero xs all = all
all_dropped P (suc n) [] all = tt
all_dropped P (suc n) (x ∷ xs) all = all_dropped P n xs all.1

pub all_more : {X : Type 0} (P Q : X → Type 0) → ((x : X) → P x → Q x) → (xs : List X) → AllByRecursion P xs → AllByRecursion Q xs
all_more P Q f [] all = tt
all_more P Q f (x ∷ xs) all = (f x all.0, all_more P Q f xs all.1)

all_both : {X : Type 0} (P Q S : X → Type 0) → ((x : X) → P x → Q x → S x) → (xs : List X) → AllByRecursion P xs → AllByRecursion Q xs → AllByRecursion S xs
all_both P Q S f [] p q = tt
all_both P Q S f (x ∷ xs) p q = (f x p.0 q.0, all_both P Q S f xs p.1 q.1)

all_join : {X : Type 0} (P : X → Type 0) (xs ys : List X) → AllByRecursion P xs → AllByRecursion P ys → AllByRecursion P (xs ++ ys)
all_join P [] ys a b = b
all_join P (x ∷ xs) ys a b = (a.0, all_join P xs ys a.1 b)

all_any : {X : Type 0} (P : X → Type 0) → ((x : X) → P x) → (xs : List X) → AllByRecursion P xs
all_any P f [] = tt
all_any P f (x ∷ xs) = (f x, all_any P f xs)

pub exchanged : {X : Type 0} (a b rest : List X) → IsPermutation (a ++ (b ++ rest)) (b ++ (a ++ rest))
exchanged a b rest =
    subst (λ l. IsPermutation l (b ++ (a ++ rest))) (append_assoc a b rest)
    (subst (IsPermutation ((a ++ b) ++ rest)) (append_assoc b a rest) (IsPermutation-append_left rest (a ++ b) (b ++ a) (IsPermutation-append_comm a b)))

-- each list, without its first n, and the first n of each
split : {X : Type 0} (n : ℕ) (ws : List (List X)) → IsPermutation (flat_map (λ w. w) ws) (flat_map (drop n) ws ++ flat_map (take n) ws)
split n [] = IsPermutation-refl []
split {X = X} n (w ∷ ws) =
    let t = take n w in
    let d = drop n w in
    let later = flat_map (drop n) ws in
    let first = flat_map (take n) ws in
    let all : List X = flat_map (λ v. v) ws in
    let parts : IsPermutation (w ++ all) (d ++ (t ++ all)) =
    subst (λ (l : List X). IsPermutation (l ++ all) (d ++ (t ++ all))) (take-append-drop n w)
    (subst (λ (l : List X). IsPermutation l (d ++ (t ++ all))) (sym (append_assoc t d all)) (exchanged t d all))
    in
    let rest : IsPermutation (t ++ all) (later ++ (t ++ first)) =
    IsPermutation-trans _ _ _ (IsPermutation-append_right t all (later ++ first) (split n ws)) (exchanged t later first)
    in
    subst (IsPermutation (w ++ all)) (sym (append_assoc d later (t ++ first)))
    (IsPermutation-trans (w ++ all) (d ++ (t ++ all)) (d ++ (later ++ (t ++ first))) parts (IsPermutation-append_right d (t ++ all) (later ++ (t ++ first)) rest))

module _ {X : Type 0} (lt : X → X → Bool) (o : IsStrictWeakOrder lt) where
  -- a sorted list by recursion: no element is below one before it
  abbrev pub Up : List X → Type 0
  Up [] = Unit {0}
  Up (x ∷ xs) = AllByRecursion (λ y. lt y x ≡ false) xs × Up xs

  sorted_rest : (x : X) (xs : List X) → IsSortedBy lt (x ∷ xs) → IsSortedBy lt xs
  sorted_rest x xs s k d low within =
      let e : suc k + 1 ≡ suc (k + 1) = omega arith in
      let h : suc k + 1 < length (x ∷ xs) = omega (arith, within) in
      rw e at (s (suc k) d (omega arith) h)

  pub up_from_sorted : (xs : List X) → IsSortedBy lt xs → Up xs
  up_from_sorted [] s = tt
  up_from_sorted (x ∷ xs) s =
      (all_at (λ y. lt y x ≡ false) xs (λ j d less. sorted_far lt o (x ∷ xs) s 0 (suc j) d (omega arith) (omega (arith, less))), up_from_sorted xs (sorted_rest x xs s))

  pub sorted_from_up : (xs : List X) → Up xs → IsSortedBy lt xs
  sorted_from_up [] up k d low within = absurd (omega (arith, within))
  sorted_from_up (x ∷ []) up k d low within = absurd (omega (arith, within))
  sorted_from_up (x ∷ y ∷ ys) up zero d low within = up.0.0
  sorted_from_up (x ∷ y ∷ ys) up (suc k) d low within =
      let e : suc k + 1 ≡ suc (k + 1) = omega arith in
      rw e (sorted_from_up (y ∷ ys) up.1 k d (omega arith) (omega (arith, within)))

  -- how many elements aren't above one
  abbrev up_to : X → List X → ℕ
  up_to r xs = count_by (λ x. not (lt r x)) xs

  up_to-cons : (r x : X) (xs : List X) → up_to r (x ∷ xs) ≡ cond (not (lt r x)) 1 0 + up_to r xs
  up_to-cons r x xs =
      let e : up_to r (x ∷ xs) ≡ (0 + cond (not (lt r x)) 1 0) + up_to r xs = sum_by-append (λ y. cond (not (lt r y)) 1 0) (x ∷ []) xs in
      omega (arith, e)

  abbrev insert : X → List X → List X
  insert r [] = r ∷ []
  insert r (x ∷ xs) = cond (lt r x) (r ∷ x ∷ xs) (x ∷ insert r xs)

  inserted : (r : X) (xs : List X) → IsPermutation (r ∷ xs) (insert r xs)
  inserted r [] = IsPermutation-refl (r ∷ [])
  inserted r (x ∷ xs) = by (lt r x) (inserted r xs)
    where
      by : (b : Bool) → IsPermutation (r ∷ xs) (insert r xs) → IsPermutation (r ∷ x ∷ xs) (cond b (r ∷ x ∷ xs) (x ∷ insert r xs))
      by true rest = IsPermutation-refl (r ∷ x ∷ xs)
      by false rest =
          IsPermutation-trans _ _ _ (IsPermutation-sym _ _ (IsPermutation-middle (x ∷ []) r xs)) (IsPermutation-cons x (r ∷ xs) (insert r xs) rest)

  all_inserted : (P : X → Type 0) (r : X) (xs : List X) → P r → AllByRecursion P xs → AllByRecursion P (insert r xs)
  all_inserted P r [] p all = (p, tt)
  all_inserted P r (x ∷ xs) p all = by (lt r x) (all_inserted P r xs p all.1)
    where
      by : (b : Bool) → AllByRecursion P (insert r xs) → AllByRecursion P (cond b (r ∷ x ∷ xs) (x ∷ insert r xs))
      by true rest = (p, (all.0, all.1))
      by false rest = (all.0, rest)

  up_inserted : (r : X) (xs : List X) → Up xs → Up (insert r xs)
  up_inserted r [] up = (tt, tt)
  up_inserted r (x ∷ xs) up = by (lt r x) refl (up_inserted r xs up.1)
    where
      by : (b : Bool) → lt r x ≡ b → Up (insert r xs) → Up (cond b (r ∷ x ∷ xs) (x ∷ insert r xs))
      by true e rest =
          let below = o.one_way r x e in
          ((below, all_more (λ y. lt y x ≡ false) (λ y. lt y r ≡ false) (λ y h. o.chain y x r h below) xs up.0), up)
      by false e rest = (all_inserted (λ y. lt y x ≡ false) r xs e up.0, rest)

  -- above an element that is above r there is none up to r
  none_up_to : (r x : X) (xs : List X) → lt r x ≡ true → AllByRecursion (λ y. lt y x ≡ false) xs → up_to r xs ≡ 0
  none_up_to r x [] e all = refl
  none_up_to r x (y ∷ ys) e all = up_to-cons r y ys ∙ by (lt r y) refl (none_up_to r x ys e all.1)
    where
      by : (b : Bool) → lt r y ≡ b → up_to r ys ≡ 0 → cond (not b) 1 0 + up_to r ys ≡ 0
      by true h rest = omega (arith, rest)
      by false h rest = let wrong : lt r x ≡ false = o.chain r y x h all.0 in cc

  take_inserted : (n : ℕ) (r : X) (xs : List X) → Up xs → n ≤ up_to r xs → take n (insert r xs) ≡ take n xs
  take_inserted zero r xs up h = refl
  take_inserted (suc n) r [] up h = absurd (omega (arith, h))
  take_inserted (suc n) r (x ∷ xs) up h = by (lt r x) refl (subst (λ k. suc n ≤ k) (up_to-cons r x xs) h) (take_inserted n r xs up.1)
    where
      by : (b : Bool) → lt r x ≡ b → suc n ≤ cond (not b) 1 0 + up_to r xs → (n ≤ up_to r xs → take n (insert r xs) ≡ take n xs)
          → take (suc n) (cond b (r ∷ x ∷ xs) (x ∷ insert r xs)) ≡ x ∷ take n xs
      by true e h rest = let none = none_up_to r x xs e up.0 in absurd (omega (arith, h, none))
      by false e h rest = ap (λ l. x ∷ l) (rest (omega (arith, h)))

  -- the elements put in, one after the other
  record Filled (n : ℕ) (rs xs : List X) : Type 0 where
    filled : List X
    all : IsPermutation (rs ++ xs) filled
    sorted : Up filled
    same : take n filled ≡ take n xs

  fill : (n : ℕ) (rs xs : List X) → Up xs → AllByRecursion (λ r. n ≤ up_to r xs) rs → Filled n rs xs
  fill n [] xs up h = record { filled = xs; all = IsPermutation-refl xs; sorted = up; same = refl }
  fill n (r ∷ rs) xs up h =
      let f = fill n rs xs up h.1 in
      let count : up_to r f.filled ≡ up_to r (rs ++ xs) = sum_by-IsPermutation (λ x. cond (not (lt r x)) 1 0) (rs ++ xs) f.filled f.all in
      let more : up_to r (rs ++ xs) ≡ up_to r rs + up_to r xs = sum_by-append (λ x. cond (not (lt r x)) 1 0) rs xs in
      let least = h.0 in
      let enough : n ≤ up_to r f.filled = omega (arith, count, more, least) in
      record {
        filled = insert r f.filled;
        all = IsPermutation-trans _ _ _ (IsPermutation-cons r (rs ++ xs) f.filled f.all) (inserted r f.filled);
        sorted = up_inserted r f.filled f.sorted;
        same = take_inserted n r f.filled f.sorted enough ∙ f.same;
      }

  -- what a sorted list has after its first n isn't below them
  trailing : (n : ℕ) (xs : List X) → Up xs → AllByRecursion (λ r. n ≤ up_to r (take n xs)) (drop n xs)
  trailing zero xs up = all_any (λ r. zero ≤ up_to r (take zero xs)) (λ r. omega arith) xs
  trailing (suc n) [] up = tt
  trailing (suc n) (x ∷ xs) up =
      all_both (λ r. lt r x ≡ false) (λ r. n ≤ up_to r (take n xs)) (λ r. suc n ≤ up_to r (x ∷ take n xs))
      (λ r e h. subst (λ k. suc n ≤ k) (sym (up_to-cons r x (take n xs))) (rw e (omega (arith, h)))) (drop n xs) (all_dropped (λ r. lt r x ≡ false) n xs up.0) (trailing n xs up.1)

  all_past : (n : ℕ) (ws : List (List X)) → AllByRecursion Up ws → AllByRecursion (λ r. n ≤ up_to r (flat_map (take n) ws)) (flat_map (drop n) ws)
  all_past n [] ups = tt
  all_past n (w ∷ ws) ups =
      all_join (λ r. n ≤ up_to r (take n w ++ flat_map (take n) ws)) (drop n w) (flat_map (drop n) ws)
      (all_more (λ r. n ≤ up_to r (take n w)) (λ r. n ≤ up_to r (take n w ++ flat_map (take n) ws))
      (λ r h. let e = sum_by-append (λ x. cond (not (lt r x)) 1 0) (take n w) (flat_map (take n) ws) in omega (arith, e, h)) (drop n w) (trailing n w ups.0))
      (all_more (λ r. n ≤ up_to r (flat_map (take n) ws)) (λ r. n ≤ up_to r (take n w ++ flat_map (take n) ws))
      (λ r h. let e = sum_by-append (λ x. cond (not (lt r x)) 1 0) (take n w) (flat_map (take n) ws) in omega (arith, e, h)) (flat_map (drop n) ws) (all_past n ws ups.1))

  -- an arrangement of all, which begins as that of the first n of each list
  pub record Whole (n : ℕ) (ws : List (List X)) (first : List X) : Type 0 where
    pub arranged : List X
    pub all : IsPermutation (flat_map (λ w. w) ws) arranged
    pub sorted : Up arranged
    pub same : take n arranged ≡ take n first

  pub whole : (n : ℕ) (ws : List (List X)) (first : List X) → AllByRecursion Up ws → IsPermutation (flat_map (take n) ws) first → Up first → Whole n ws first
  whole n ws first ups permuted up =
      let enough : AllByRecursion (λ r. n ≤ up_to r first) (flat_map (drop n) ws) =
      all_more (λ r. n ≤ up_to r (flat_map (take n) ws)) (λ r. n ≤ up_to r first)
      (λ r h. let e = sum_by-IsPermutation (λ x. cond (not (lt r x)) 1 0) (flat_map (take n) ws) first permuted in omega (arith, e, h))
      (flat_map (drop n) ws) (all_past n ws ups)
      in
      let f = fill n (flat_map (drop n) ws) first up enough in
      record {
        arranged = f.filled;
        all =
            IsPermutation-trans _ _ _ (split n ws)
            (IsPermutation-trans _ _ _ (IsPermutation-append_right (flat_map (drop n) ws) (flat_map (take n) ws) first permuted) f.all);
        sorted = f.sorted;
        same = f.same;
      }
