-- Lists that are as long as each other, one after another.
use Rattle.std.proofs.Common.{◌≡◌, ℕ, ◌+◌, ◌*◌, ◌<◌, ◌≤◌, List, [], ◌∷◌, ◌++◌, length, map, flat_map, set, take, drop, Some, zero, suc, refl, sym, ap, ◌∙◌, arith, slice_get, length-append, append_assoc}
use Rattle.std.specs.List.{AllByRecursion}
use Rattle.std.proofs.lemmas.List.{take_at, drop_at, drop-drop}

abbrev pub joined : {X : Type 0} → List (List X) → List X
joined lists = flat_map (λ list. list) lists

pub joined_map : {A X : Type 0} (f : A → List X) (keys : List A) → flat_map f keys ≡ joined (map f keys)
joined_map f [] = refl
joined_map f (k ∷ keys) = ap (λ r. f k ++ r) (joined_map f keys)

none : (n : ℕ) → 0 * n ≡ 0
none n = omega arith

next : (n i : ℕ) → suc i * n ≡ n + i * n
next n i = omega arith

module _ {X : Type 0} (n : ℕ) where
  abbrev pub Each : List (List X) → Type 0
  Each lists = AllByRecursion (λ list. length list ≡ n) lists

  past : (l rest : List X) (j : ℕ) → length l ≡ n → drop (n + j) (l ++ rest) ≡ drop j rest
  past l rest j e = sym (drop-drop j n (l ++ rest)) ∙ ap (drop j) (drop_at l rest n e)

  into_by : (l rest : List X) (j : ℕ) → take (length l + j) (l ++ rest) ≡ l ++ take j rest
  into_by [] rest j = ap (λ m. take m rest) {x = 0 + j} {y = j} (omega arith)
  into_by (x ∷ l) rest j =
      ap (λ m. take m (x ∷ l ++ rest)) {x = suc (length l) + j} {y = suc (length l + j)} (omega arith) ∙ ap (λ r. x ∷ r) (into_by l rest j)

  into : (l rest : List X) (j : ℕ) → length l ≡ n → take (n + j) (l ++ rest) ≡ l ++ take j rest
  into l rest j e = ap (λ m. take (m + j) (l ++ rest)) (sym e) ∙ into_by l rest j

  pub joined_at : (lists : List (List X)) (i : ℕ) (l : List X) → Each lists → slice_get lists i ≡ Some l → take n (drop (i * n) (joined lists)) ≡ l
  joined_at [] i l each at = cc
  joined_at (x ∷ lists) zero l each at = let same : x ≡ l = cc in ap (λ j. take n (drop j (x ++ joined lists))) (none n) ∙ take_at x (joined lists) n each.0 ∙ same
  joined_at (x ∷ lists) (suc i) l each at =
      ap (λ j. take n (drop j (x ++ joined lists))) (next n i) ∙ ap (take n) (past x (joined lists) (i * n) each.0) ∙ joined_at lists i l each.1 at

  pub joined_set : (lists : List (List X)) (i : ℕ) (l : List X) → Each lists → i < length lists →
      take (i * n) (joined lists) ++ l ++ drop (i * n + n) (joined lists) ≡ joined (set lists i l)
  joined_set [] i l each h = absurd (omega arith)
  joined_set (x ∷ lists) zero l each h =
      (λ k. take (none n k) (x ++ joined lists) ++ l ++ drop (none n k + n) (x ++ joined lists))
      ∙ ap (λ j. l ++ drop j (x ++ joined lists)) {x = 0 + n} {y = n} (omega arith) ∙ ap (λ r. l ++ r) (drop_at x (joined lists) n each.0)
  joined_set (x ∷ lists) (suc i) l each h =
      (λ k. take (next n i k) (x ++ joined lists) ++ l ++ drop (next n i k + n) (x ++ joined lists))
      ∙ (λ k. into x (joined lists) (i * n) each.0 k ++ l ++ drop (n + i * n + n) (x ++ joined lists))
      ∙ ap (λ r. (x ++ take (i * n) (joined lists)) ++ l ++ r) (ap (λ j. drop j (x ++ joined lists)) {x = n + i * n + n} {y = n + (i * n + n)} (omega arith) ∙ past x (joined lists) (i * n + n) each.0)
      ∙ ap (λ r. r ++ drop (i * n + n) (joined lists)) (append_assoc x (take (i * n) (joined lists)) l)
      ∙ append_assoc x (take (i * n) (joined lists) ++ l) (drop (i * n + n) (joined lists))
      ∙ ap (λ r. x ++ r) (joined_set lists i l each.1 (omega arith))

  pub ends_within : (lists : List (List X)) (i : ℕ) → Each lists → i < length lists → i * n + n ≤ length (joined lists)
  ends_within [] i each h = absurd (omega arith)
  ends_within (x ∷ lists) zero each h = omega (arith, length-append x (joined lists), each.0)
  ends_within (x ∷ lists) (suc i) each h = omega (arith, next n i, length-append x (joined lists), each.0, ends_within lists i each.1 (omega arith))
