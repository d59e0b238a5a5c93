-- Slices of lists, an element at a time.
use Rattle.std.proofs.Common.{◌≡◌, ℕ, ◌+◌, ◌-◌, ◌<◌, ◌≤◌, List, [], ◌∷◌, take, drop, zero, suc, arith, add-one}
use Rattle.std.proofs.Math.Seq.{drop-nil}

module _ {X : Type 0} where
  -- where nothing is left after m elements, nothing is left after more
  pub drop_ended : (xs : List X) (m n : ℕ) → drop m xs ≡ [] → m ≤ n → drop n xs ≡ []
  drop_ended [] m n ended h = drop-nil n
  drop_ended (x ∷ xs) zero n ended h = cc
  drop_ended (x ∷ xs) (suc m) zero ended h = absurd (omega arith)
  drop_ended (x ∷ xs) (suc m) (suc n) ended h = drop_ended xs m n ended (omega arith)

  after_first : (xs ys : List X) (y : X) (m : ℕ) → drop m xs ≡ y ∷ ys → drop (suc m) xs ≡ ys
  after_first [] ys y m e = let none = drop-nil {A = X} m in cc
  after_first (x ∷ xs) ys y zero e = cc
  after_first (x ∷ xs) ys y (suc m) e = after_first xs ys y m e

  -- the element after m others is the first of what is left
  pub drop_next : (xs ys : List X) (y : X) (m : ℕ) → drop m xs ≡ y ∷ ys → drop (m + 1) xs ≡ ys
  drop_next xs ys y m e = rw add-one (after_first xs ys y m e)

  pub take_next : (y : X) (ys : List X) (n : ℕ) → 0 < n → take n (y ∷ ys) ≡ y ∷ take (n - 1) ys
  take_next y ys zero h = absurd (omega arith)
  take_next y ys (suc n) h = let less : suc n - 1 ≡ n = omega arith in rw less
