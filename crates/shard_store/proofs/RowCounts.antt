-- Rows of tables counted one table after the other.
use Rattle.std.proofs.Common.{◌≡◌, ℕ, zero, suc, ◌+◌, ◌<◌, ◌≤◌, Bool, true, false, List, [], ◌∷◌, length, take, get_or, map, refl, sym, ap, ◌∙◌, arith}
use Rattle.std.specs.Prelude.{sum_by, nat_le}
use Rattle.std.proofs.lemmas.Bool.{leb-true, le-leb}
use Rattle.std.proofs.lemmas.List.Sums.{sum_by-cons}
use Rattle.vt_value.specs.Values.{Row}

module _ {X : Type 0} (f : X → ℕ) where
  pub sum_next : (xs : List X) (i : ℕ) (x : X) → i < length xs → x ≡ get_or xs i x → sum_by f (take (i + 1) xs) ≡ sum_by f (take i xs) + f x
  sum_next xs i x there is = ap (λ n. sum_by f (take n xs)) one ∙ by xs i there is
    where
      one : i + 1 ≡ suc i
      one = omega arith

      by : (xs : List X) (i : ℕ) → i < length xs → x ≡ get_or xs i x → sum_by f (take (suc i) xs) ≡ sum_by f (take i xs) + f x
      by [] i there is = absurd (omega (arith, there))
      by (y ∷ xs) zero there is =
          let h = sum_by-cons f y [] in
          let e = ap f is in
          omega (arith, h, e)
      by (y ∷ xs) (suc i) there is =
          let h = sum_by-cons f y (take (suc i) xs) in
          let k = sum_by-cons f y (take i xs) in
          let rest = by xs i (omega (arith, there)) is in
          omega (arith, h, k, rest)

  pub sum_front : (n : ℕ) (xs : List X) → sum_by f (take n xs) ≤ sum_by f xs
  sum_front zero xs = omega arith
  sum_front (suc n) [] = omega arith
  sum_front (suc n) (x ∷ xs) =
      let h = sum_by-cons f x (take n xs) in
      let k = sum_by-cons f x xs in
      let rest = sum_front n xs in
      omega (arith, h, k, rest)

pub rows_counted : {T : Type 0} (rows : T → List Row) (ts : List T) → sum_by length (map rows ts) ≡ sum_by (λ t. length (rows t)) ts
rows_counted rows [] = refl
rows_counted rows (t ∷ ts) =
    let h = sum_by-cons length (rows t) (map rows ts) in
    let k = sum_by-cons (λ t. length (rows t)) t ts in
    let rest = rows_counted rows ts in
    omega (arith, h, k, rest)

pub above : (a b : ℕ) → b < a → false ≡ nat_le a b
above a b more = by (nat_le a b) refl
  where
    by : (c : Bool) → nat_le a b ≡ c → false ≡ c
    by true e = let l = leb-true a b e in absurd (omega (arith, l, more))
    by false e = refl

pub within : (a b : ℕ) → a ≤ b → true ≡ nat_le a b
within a b l = sym (le-leb a b l)
