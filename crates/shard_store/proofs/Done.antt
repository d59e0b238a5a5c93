-- Databases with the same rows in another order.
use Rattle.std.proofs.Common.{[], ◌∷◌}
use Rattle.std.proofs.lemmas.List.Sorted.{IsPermutation-refl, IsPermutation-trans}
use Rattle.sql_eval.specs.Database.{Database, SameRows}

pub SameRows-refl : (a : Database) → SameRows a a
SameRows-refl [] = tt
SameRows-refl (xs ∷ a) = (IsPermutation-refl xs, SameRows-refl a)

pub SameRows-trans : (a b c : Database) → SameRows a b → SameRows b c → SameRows a c
SameRows-trans [] [] [] f g = tt
SameRows-trans [] [] (zs ∷ c) f g = absurd g
SameRows-trans [] (ys ∷ b) c f g = absurd f
SameRows-trans (xs ∷ a) [] c f g = absurd f
SameRows-trans (xs ∷ a) (ys ∷ b) [] f g = absurd g
SameRows-trans (xs ∷ a) (ys ∷ b) (zs ∷ c) f g = (IsPermutation-trans xs ys zs f.0 g.0, SameRows-trans a b c f.1 g.1)
