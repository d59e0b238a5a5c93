-- A list that is changed place by place.
use Rattle.std.proofs.Common.{◌≡◌, ℕ, zero, suc, ◌+◌, ◌<◌, List, [], ◌∷◌, ◌++◌, length, take, drop, set, map, slice_index, refl, ap, subst, ◌∙◌, arith}
use Rattle.mysql_handshake.specs.Salts.{printable}

-- so many bytes are printable, and those after them are as they were
pub half : ℕ → List ℕ → List ℕ
half n xs = map printable (take n xs) ++ drop n xs

pub none_yet : (xs : List ℕ) → half 0 xs ≡ xs
unfolding half
none_yet xs = refl

step : (xs : List ℕ) (n : ℕ) → n < length xs → set (half n xs) n (printable (slice_index xs n)) ≡ half (suc n) xs
unfolding half
step [] n below = absurd (omega (arith, below))
step (x ∷ xs) zero below = refl
step (x ∷ xs) (suc n) below = ap (λ l. printable x ∷ l) (step xs n (omega (arith, below)))

pub one_more : (xs : List ℕ) (n : ℕ) → n < length xs → set (half n xs) n (printable (slice_index xs n)) ≡ half (n + 1) xs
one_more xs n below = let e : suc n ≡ n + 1 = omega arith in subst (λ k. set (half n xs) n (printable (slice_index xs n)) ≡ half k xs) e (step xs n below)

whole : (xs : List ℕ) (n : ℕ) → n ≡ length xs → half n xs ≡ map printable xs
unfolding half
whole [] zero e = refl
whole [] (suc n) e = absurd (omega (arith, e))
whole (x ∷ xs) zero e = absurd (omega (arith, e))
whole (x ∷ xs) (suc n) e = ap (λ l. printable x ∷ l) (whole xs n (omega (arith, e)))

pub all : (xs ys : List ℕ) (n : ℕ) → ys ≡ half n xs → n ≡ length xs → ys ≡ map printable xs
all xs ys n is e = is ∙ whole xs n e
