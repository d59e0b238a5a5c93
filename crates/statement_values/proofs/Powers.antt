-- Numbers times and over powers of two.
use Rattle.std.proofs.Common.{◌≡◌, ℕ, zero, suc, ◌+◌, ◌*◌, ◌-◌, ◌/◌, ◌%◌, ◌^◌, ◌<◌, ◌≤◌, refl, ap, sym, subst, ◌∙◌, arith}
use Rattle.std.proofs.lemmas.Nat.{pow-add}
use Rattle.std.proofs.Math.Nat.{mul_comm, mul_assoc, mul_right_comm, eq_of_mul-eq-mul_right, le-mul_of_pos_right, mul-div_cancel, mul-mod_left, one-le-pow}
use Rattle.std.proofs.Math.Pow.{pow_mono}

pub pow_pos : (k : ℕ) → 0 < 2 ^ k
pow_pos k = one-le-pow k 2 (omega arith)

-- an exponent that is the other one and some more
pub up : (n e b p r : ℕ) → e ≡ b + p → r ≡ n * 2 ^ p → n * 2 ^ e ≡ r * 2 ^ b
up n e b p r is same =
    ap (λ (k : ℕ). n * 2 ^ k) is ∙ ap (λ (k : ℕ). n * k) (pow-add 2 b p) ∙ sym (mul_assoc n (2 ^ b) (2 ^ p)) ∙ mul_right_comm n (2 ^ b) (2 ^ p)
    ∙ ap (λ (k : ℕ). k * 2 ^ b) (sym same)

pub up_only : (n e b p r : ℕ) → e ≡ b + p → n * 2 ^ e ≡ r * 2 ^ b → r ≡ n * 2 ^ p
up_only n e b p r is same =
    eq_of_mul-eq-mul_right (2 ^ b) (pow_pos b) r (n * 2 ^ p) (sym same ∙ up n e b p (n * 2 ^ p) is refl)

-- an exponent to which some more is the other one
pub down : (n e b p r : ℕ) → b ≡ e + p → r * 2 ^ p ≡ n → n * 2 ^ e ≡ r * 2 ^ b
down n e b p r is same = sym (up r b e p n is (sym same))

pub down_only : (n e b p r : ℕ) → b ≡ e + p → n * 2 ^ e ≡ r * 2 ^ b → r * 2 ^ p ≡ n
down_only n e b p r is same = sym (up_only r b e p n is (sym same))

-- no number below 2 ^ 64 but 0 has a factor 2 ^ 64
pub too_large : (n p : ℕ) → 0 < n → 64 ≤ p → n * 2 ^ p < 2 ^ 64 → ⊥
too_large n p some le lt =
    let big : 2 ^ 64 ≤ 2 ^ p = pow_mono {i = 64} {j = p} le in
    let more : 2 ^ p ≤ 2 ^ p * n = le-mul_of_pos_right {m = n} (2 ^ p) some in
    let least : 2 ^ p ≤ n * 2 ^ p = subst (λ (k : ℕ). 2 ^ p ≤ k) (mul_comm (2 ^ p) n) more in
    omega (arith, lt, big, least)

pub no_factor : (n p r : ℕ) → 0 < n → n < 2 ^ 64 → 64 ≤ p → r * 2 ^ p ≡ n → ⊥
no_factor n p zero some lt le is = omega (arith, some, is)
no_factor n p (suc r) some lt le is = too_large (suc r) p (omega arith) le (omega (arith, lt, is))

pub remainder : (n p r : ℕ) → r * 2 ^ p ≡ n → n % 2 ^ p ≡ 0
remainder n p r is = ap (λ (k : ℕ). k % 2 ^ p) (sym is) ∙ mul-mod_left r (2 ^ p)

pub quotient : (n p r : ℕ) → r * 2 ^ p ≡ n → n / 2 ^ p ≡ r
quotient n p r is = ap (λ (k : ℕ). k / 2 ^ p) (sym is) ∙ mul-div_cancel r {n = 2 ^ p} (pow_pos p)
