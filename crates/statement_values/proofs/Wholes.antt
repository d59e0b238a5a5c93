-- What floats stand for.
use Rattle.std.proofs.Common.{◌≡◌, ℕ, ℤ, zero, suc, pos, negsuc, ◌+◌, ◌*◌, ◌-◌, ◌/◌, ◌%◌, ◌^◌, ◌<◌, ◌≤◌, Option, Some, None, refl, ap, sym, subst, ◌∙◌, arith}
use Rattle.std.specs.Prelude.{neg_ℤ, IfSome}
use Rattle.std.proofs.Math.Nat.{eq_of_mul-eq-mul_right}
use Rattle.statement_values.specs.Floats.{StandsFor, IsFloat, IsSingle, IsDouble, with_sign, IsInRange}
use Rattle.statement_values.specs.Floats as f
use Rattle.statement_values.proofs.Powers.{pow_pos}

-- one number at most
number_same : (bias n m e k : ℕ) → k * 2 ^ e ≡ n * 2 ^ bias → k * 2 ^ e ≡ m * 2 ^ bias → n ≡ m
number_same bias n m e k a b = eq_of_mul-eq-mul_right (2 ^ bias) (pow_pos bias) n m (sym a ∙ b)

pub stands_same : (unit bias exponents sign exponent fraction : ℕ) (y z : ℤ) → StandsFor unit bias exponents sign exponent fraction y
    → StandsFor unit bias exponents sign exponent fraction z → y ≡ z
stands_same unit bias exponents sign _ _ _ _ f.nothing f.nothing = refl
stands_same unit bias exponents sign _ _ _ _ f.nothing (f.whole n some more is) = absurd (omega (arith, some))
stands_same unit bias exponents sign _ _ _ _ (f.whole n some more is) f.nothing = absurd (omega (arith, some))
stands_same unit bias exponents sign _ _ _ _ (f.whole {exponent = e} {fraction = m} n some more is) (f.whole k some' more' is') =
    ap (with_sign sign) (number_same bias n k e (unit + m) is is')

-- the number that stands there, and nothing else
pub stands_only : (unit bias exponents sign exponent fraction : ℕ) (z : ℤ) → StandsFor unit bias exponents sign exponent fraction z → 0 < exponent
    → (n : ℕ) × (exponent + 1 < exponents) × ((unit + fraction) * 2 ^ exponent ≡ n * 2 ^ bias) × (z ≡ with_sign sign n)
stands_only unit bias exponents sign _ _ _ f.nothing some = absurd (omega (arith, some))
stands_only unit bias exponents sign _ _ _ (f.whole n some more is) some' = (n, more, is, refl)

pub stands_nothing : (unit bias exponents sign exponent fraction : ℕ) (z : ℤ) → StandsFor unit bias exponents sign exponent fraction z → exponent ≡ 0 → fraction ≡ 0
stands_nothing unit bias exponents sign _ _ _ f.nothing e = refl
stands_nothing unit bias exponents sign _ _ _ (f.whole n some more is) e = absurd (omega (arith, some, e))

-- a number that is in range with its sign is below 2 ^ 64
in_range : (sign n : ℕ) → IsInRange (with_sign sign n) → n < 2 ^ 64
in_range zero n h = h
in_range (suc s) zero h = omega arith
in_range (suc s) (suc n) h = omega (arith, h)

pub not_scaled : (unit bias exponents sign exponent fraction : ℕ) (z : ℤ) → StandsFor unit bias exponents sign exponent fraction z → IsInRange z → 0 < exponent
    → ((r : ℕ) → r < 2 ^ 64 → (unit + fraction) * 2 ^ exponent ≡ r * 2 ^ bias → ⊥) → ⊥
not_scaled unit bias exponents sign exponent fraction z s range some none =
    let o = stands_only unit bias exponents sign exponent fraction z s some in
    none o.0 (in_range sign o.0 (subst IsInRange o.3 range)) o.2

pub not_signed : (unit bias exponents sign exponent fraction n : ℕ) (z : ℤ) → StandsFor unit bias exponents sign exponent fraction z → IsInRange z → 0 < exponent
    → (unit + fraction) * 2 ^ exponent ≡ n * 2 ^ bias → (IsInRange (with_sign sign n) → ⊥) → ⊥
not_signed unit bias exponents sign exponent fraction n z s range some is none =
    let o = stands_only unit bias exponents sign exponent fraction z s some in
    none (subst IsInRange (o.3 ∙ ap (with_sign sign) (number_same bias o.0 n exponent (unit + fraction) o.2 is)) range)

pub whole_stands : (unit bias exponents sign exponent fraction n : ℕ) (z : ℤ) → 0 < exponent → exponent + 1 < exponents
    → (unit + fraction) * 2 ^ exponent ≡ n * 2 ^ bias → z ≡ with_sign sign n → StandsFor unit bias exponents sign exponent fraction z
whole_stands unit bias exponents sign exponent fraction n z some more is same =
    subst (λ (y : ℤ). StandsFor unit bias exponents sign exponent fraction y) (sym same) (f.whole n some more is)

pub nothing_stands : (unit bias exponents sign exponent fraction : ℕ) → exponent ≡ 0 → fraction ≡ 0 → StandsFor unit bias exponents sign exponent fraction (pos 0)
nothing_stands unit bias exponents sign exponent fraction e m = rw (e, m) f.nothing

-- the last exponent stands for no number
pub last_stands : (unit bias exponents sign exponent fraction : ℕ) (z : ℤ) → StandsFor unit bias exponents sign exponent fraction z → 0 < exponent
    → exponent ≡ exponents - 1 → ⊥
last_stands unit bias exponents sign exponent fraction z s some last =
    let o = stands_only unit bias exponents sign exponent fraction z s some in omega (arith, last, o.1)

-- ---- by bits

pub single : (bits : ℕ) (z : ℤ) → bits < 2 ^ 32 → StandsFor (2 ^ 23) 150 256 (bits / 2 ^ 31) (bits / 2 ^ 23 % 256) (bits % 2 ^ 23) z → IsSingle bits z
single bits z lt s = record {
  sign = bits / 2 ^ 31;
  exponent = bits / 2 ^ 23 % 256;
  fraction = bits % 2 ^ 23;
  sign_is = omega (arith, lt);
  exponent_is = omega arith;
  fraction_is = omega arith;
  bits_are = omega arith;
  stands = s;
}

pub double : (bits : ℕ) (z : ℤ) → bits < 2 ^ 64 → StandsFor (2 ^ 52) 1075 2048 (bits / 2 ^ 63) (bits / 2 ^ 52 % 2048) (bits % 2 ^ 52) z → IsDouble bits z
double bits z lt s = record {
  sign = bits / 2 ^ 63;
  exponent = bits / 2 ^ 52 % 2048;
  fraction = bits % 2 ^ 52;
  sign_is = omega (arith, lt);
  exponent_is = omega arith;
  fraction_is = omega arith;
  bits_are = omega arith;
  stands = s;
}

at_parts : (unit bias exponents : ℕ) (s e m s' e' m' : ℕ) (z : ℤ) → s ≡ s' → e ≡ e' → m ≡ m' → StandsFor unit bias exponents s e m z
    → StandsFor unit bias exponents s' e' m' z
at_parts unit bias exponents s e m s' e' m' z is is' is'' h =
    subst (λ (x : ℕ). StandsFor unit bias exponents x e' m' z) is
    (subst (λ (x : ℕ). StandsFor unit bias exponents s x m' z) is' (subst (λ (x : ℕ). StandsFor unit bias exponents s e x z) is'' h))

pub single_only : (bits : ℕ) (z : ℤ) → IsSingle bits z → StandsFor (2 ^ 23) 150 256 (bits / 2 ^ 31) (bits / 2 ^ 23 % 256) (bits % 2 ^ 23) z
single_only bits z h =
    at_parts (2 ^ 23) 150 256 h.sign h.exponent h.fraction _ _ _ z (omega (arith, h.sign_is, h.exponent_is, h.fraction_is, h.bits_are))
    (omega (arith, h.sign_is, h.exponent_is, h.fraction_is, h.bits_are)) (omega (arith, h.sign_is, h.exponent_is, h.fraction_is, h.bits_are)) h.stands

pub double_only : (bits : ℕ) (z : ℤ) → IsDouble bits z → StandsFor (2 ^ 52) 1075 2048 (bits / 2 ^ 63) (bits / 2 ^ 52 % 2048) (bits % 2 ^ 52) z
double_only bits z h =
    at_parts (2 ^ 52) 1075 2048 h.sign h.exponent h.fraction _ _ _ z (omega (arith, h.sign_is, h.exponent_is, h.fraction_is, h.bits_are))
    (omega (arith, h.sign_is, h.exponent_is, h.fraction_is, h.bits_are)) (omega (arith, h.sign_is, h.exponent_is, h.fraction_is, h.bits_are)) h.stands

-- bits are one number at most
pub single_same : (bits : ℕ) (y z : ℤ) → IsSingle bits y → IsSingle bits z → y ≡ z
single_same bits y z a b = stands_same (2 ^ 23) 150 256 _ _ _ y z (single_only bits y a) (single_only bits z b)

pub double_same : (bits : ℕ) (y z : ℤ) → IsDouble bits y → IsDouble bits z → y ≡ z
double_same bits y z a b = stands_same (2 ^ 52) 1075 2048 _ _ _ y z (double_only bits y a) (double_only bits z b)
