-- Whole numbers that DECIMAL has: digits after a sign, if there is one, and nothing but zeros after a point.
use Rattle.std.specs.Prelude.{◌≡◌, ℕ, ℤ, ◌==◌, true, List, [], ◌∷◌, if◌then◌else◌}
use Rattle.std.specs.List.{list_all}
use Rattle.std.specs.Str.Parse.{IsNumeral, without_leading_sign, signed_digits_value}

-- the bytes before the first point, and those after it
abbrev pub before_point : List ℕ → List ℕ
before_point [] = []
before_point (b ∷ bytes) = if b == 0x2E then [] else b ∷ before_point bytes

abbrev pub after_point : List ℕ → List ℕ
after_point [] = []
after_point (b ∷ bytes) = if b == 0x2E then bytes else after_point bytes

-- The text spells the number: in digits, one at least.
pub record IsDecimal (text : List ℕ) (z : ℤ) : Type 0 where
  pub numeral : IsNumeral 10 (without_leading_sign (before_point text))
  pub zeros : list_all (λ b. b == 0x30) (after_point text) ≡ true
  pub value : z ≡ signed_digits_value 10 (before_point text)
