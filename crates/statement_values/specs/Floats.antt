-- Whole numbers that FLOAT and DOUBLE have: those of IEEE 754, by a sign, an exponent and a fraction.
use Rattle.std.specs.Prelude.{◌≡◌, ℕ, ℤ, zero, suc, pos, negsuc, neg_ℤ, ◌+◌, ◌*◌, ◌^◌, ◌<◌, ◌≤◌}

abbrev pub with_sign : ℕ → ℕ → ℤ
with_sign zero n = pos n
with_sign (suc s) n = neg_ℤ (pos n)

-- one of - 2 ^ 63 to 2 ^ 64 - 1
abbrev pub IsInRange : ℤ → Type 0
IsInRange (pos n) = n < 2 ^ 64
IsInRange (negsuc n) = suc n ≤ 2 ^ 63

-- What a sign, one of so many exponents, and a fraction of a unit stand for, if that is whole: with the fraction the unit is multiplied by 2 to the
-- exponent, over 2 to the bias. The exponent 0 is for 0, and for what is less than any whole number; the last one is for what is no number.
pub data StandsFor (unit bias exponents : ℕ) : ℕ → ℕ → ℕ → ℤ → Type 0 where
  nothing : {sign : ℕ} → StandsFor unit bias exponents sign 0 0 (pos 0)
  whole : {sign exponent fraction : ℕ} (n : ℕ) → 0 < exponent → exponent + 1 < exponents → (unit + fraction) * 2 ^ exponent ≡ n * 2 ^ bias
      → StandsFor unit bias exponents sign exponent fraction (with_sign sign n)

-- The bits are a sign, an exponent and a fraction that stand for this number. FLOAT has 256 exponents and a unit of 2 ^ 23, DOUBLE 2048 and 2 ^ 52.
pub record IsFloat (unit bias exponents bits : ℕ) (z : ℤ) : Type 0 where
  pub sign : ℕ
  pub exponent : ℕ
  pub fraction : ℕ
  pub sign_is : sign < 2
  pub exponent_is : exponent < exponents
  pub fraction_is : fraction < unit
  pub bits_are : bits ≡ (sign * exponents + exponent) * unit + fraction
  pub stands : StandsFor unit bias exponents sign exponent fraction z

abbrev pub IsSingle : ℕ → ℤ → Type 0
IsSingle bits z = IsFloat (2 ^ 23) 150 256 bits z

abbrev pub IsDouble : ℕ → ℤ → Type 0
IsDouble bits z = IsFloat (2 ^ 52) 1075 2048 bits z
