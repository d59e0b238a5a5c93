-- How many of the first of a list are one item.
use Rattle.std.specs.Prelude.{◌≡◌, ℕ, List, ◌∷◌, ◌++◌, replicate}

-- a list begins with so many of the item, and not with one more
pub record IsLed {X : Type 0} (xs : List X) (x : X) (n : ℕ) (rest : List X) : Type 0 where
  pub is : xs ≡ replicate n x ++ rest
  pub other : (tail : List X) → rest ≡ x ∷ tail → ⊥
