-- Places of columns in a table and in a scope.
use Rattle.std.proofs.Common.{◌≡◌, ℕ, zero, suc, ◌+◌, ◌<◌, Bool, true, false, cond, List, [], ◌∷◌, length, drop, Option, Some, None, refl, sym, arith}
use Rattle.std.specs.Prelude.{IfSome}
use Rattle.vschema.specs.Schema.{ordinal_from}
use Rattle.vschema.specs.Resolved.{ordinals_from}

some_ordinal : (m n : ℕ) → ◌≡◌ {A = Option ℕ} (Some m) (Some n) → m ≡ n
some_ordinal m n e = cc

below : {X : Type 0} (p : X → Bool) (k : ℕ) (xs : List X) (m : ℕ) → ordinal_from p k xs ≡ Some m → m < k + length xs
below p k [] m e = absurd cc
below p k (x ∷ xs) m e = by (p x) e (below p (k + 1) xs m)
  where
    by : (b : Bool) → cond b (Some k) (ordinal_from p (k + 1) xs) ≡ Some m → (ordinal_from p (k + 1) xs ≡ Some m → m < k + 1 + length xs) → m < k + length (x ∷ xs)
    by true f rest = let same = some_ordinal k m f in omega (arith, same)
    by false f rest = let less = rest f in omega (arith, less)

pub found_below : {X : Type 0} (p : X → Bool) (xs : List X) (o : Option ℕ) → o ≡ ordinal_from p 0 xs → IfSome o (λ n. n < length xs)
found_below p xs None e = tt
found_below p xs (Some m) e = let less = below p 0 xs m (sym e) in omega (arith, less)

pub ordinals_next : {X : Type 0} (xs : List X) (k n : ℕ) → n < length xs → ordinals_from k (drop n xs) ≡ k ∷ ordinals_from (k + 1) (drop (n + 1) xs)
ordinals_next [] k n h = absurd (omega (arith, h))
ordinals_next (x ∷ xs) k zero h = refl
ordinals_next (x ∷ xs) k (suc n) h = let e : suc n + 1 ≡ suc (n + 1) = omega arith in rw e (ordinals_next xs k n (omega (arith, h)))
