-- The columns of a pair.
use Rattle.std.proofs.Common.{◌≡◌, ℕ, zero, suc, ◌+◌, ◌<◌, [], ◌∷◌, ◌++◌, refl, ap, ◌∙◌, arith}
use Rattle.vt_value.specs.declared.value.Value.TheVariants.{Null}
use Rattle.vt_value.specs.Values.{Row, value_at}
use Rattle.vschema.specs.Sources.{padded_row}

empty_at : (n : ℕ) → value_at [] n ≡ Null
empty_at zero = refl
empty_at (suc n) = refl

-- those of its first row
pub left_at : (w : ℕ) (a b : Row) (n : ℕ) → n < w → value_at (padded_row w a ++ b) n ≡ value_at a n
left_at zero a b n h = absurd (omega (arith, h))
left_at (suc w) [] b zero h = refl
left_at (suc w) [] b (suc n) h = left_at w [] b n (omega (arith, h)) ∙ empty_at n
left_at (suc w) (v ∷ a) b zero h = refl
left_at (suc w) (v ∷ a) b (suc n) h = left_at w a b n (omega (arith, h))

-- and after them those of its second
pub right_at : (w : ℕ) (a b : Row) (n m : ℕ) → m ≡ w + n → value_at (padded_row w a ++ b) m ≡ value_at b n
right_at zero a b n m e = let same : m ≡ n = omega (arith, e) in ap (value_at b) same
right_at (suc w) a b n zero e = absurd (omega (arith, e))
right_at (suc w) [] b n (suc m) e = right_at w [] b n m (omega (arith, e))
right_at (suc w) (v ∷ a) b n (suc m) e = right_at w a b n m (omega (arith, e))

-- one column more
pub padded_next : (n : ℕ) (row : Row) → padded_row (n + 1) row ≡ padded_row n row ++ value_at row n ∷ []
padded_next zero [] = refl
padded_next zero (v ∷ row) = refl
padded_next (suc n) [] = let e : suc n + 1 ≡ suc (n + 1) = omega arith in rw e (ap (λ l. Null ∷ l) (padded_next n [] ∙ ap (λ v. padded_row n [] ++ v ∷ []) (empty_at n)))
padded_next (suc n) (v ∷ row) = let e : suc n + 1 ≡ suc (n + 1) = omega arith in rw e (ap (λ l. v ∷ l) (padded_next n row))
