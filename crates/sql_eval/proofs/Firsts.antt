-- The first elements of a list, one more at a time.
use Rattle.std.proofs.Common.{◌≡◌, ℕ, zero, suc, ◌+◌, List, [], ◌∷◌, ◌++◌, map, take, drop, ap, ◌∙◌, add-one}
use Rattle.std.proofs.Math.Seq.{drop-nil}
use Rattle.std.proofs.lemmas.List.{map-append}

take_after : {X : Type 0} (xs ys : List X) (y : X) (n : ℕ) → drop n xs ≡ y ∷ ys → take (suc n) xs ≡ take n xs ++ y ∷ []
take_after {X = X} [] ys y n e = let none = drop-nil {A = X} n in cc
take_after (x ∷ xs) ys y zero e = cc
take_after (x ∷ xs) ys y (suc n) e = ap (λ z. x ∷ z) (take_after xs ys y n e)

-- one element more is shown
pub shown_more : {X Y : Type 0} (f : X → Y) (xs ys : List X) (y : X) (n : ℕ) → drop n xs ≡ y ∷ ys
    → map f (take (n + 1) xs) ≡ map f (take n xs) ++ f y ∷ []
shown_more f xs ys y n e = rw add-one (ap (map f) (take_after xs ys y n e) ∙ map-append f (take n xs) (y ∷ []))
