-- The value of digits, read one by one.
use Rattle.std.proofs.Common.{◌≡◌, ℕ, zero, suc, ◌+◌, ◌-◌, ◌*◌, ◌/◌, ◌^◌, ◌≤◌, ◌<◌, Bool, true, false, cond, leb, ltb, List, [], ◌∷◌, length, Some, None, refl, subst, arith}
use Rattle.std.proofs.lemmas.Bool.{leb-true, le-ltb, lt-ltb, ltb-true, ltb-false}
use Rattle.sql_lexer.specs.Lexemes.{digits_onto}
use Rattle.sql_lexer.proofs.Below.{passes_below, passes_at}
use Rattle.sql_lexer.proofs.Options.{guard_some}
use Rattle.sql_parser.specs.inner.Reading.{fitting}

-- the value only grows with each digit
digits_grow : (high : ℕ) (digits : List ℕ) → high ≤ digits_onto high digits
digits_grow high [] = omega arith
digits_grow high (b ∷ digits) = let e = digits_grow (high * 10 + (b - 0x30)) digits in omega arith

-- a value that is too large stays so
too_large : (high : ℕ) (digits : List ℕ) → 2 ^ 64 ≤ high → fitting (digits_onto high digits) ≡ None
too_large high digits le = let e = digits_grow high digits in rw (le-ltb (digits_onto high digits) (2 ^ 64) (omega arith)) refl

none_fits : (n : ℕ) → fitting n ≡ None → 2 ^ 64 ≤ n
none_fits n e = go (ltb n (2 ^ 64)) refl e
  where
    go : (b : Bool) → ltb n (2 ^ 64) ≡ b → cond b (Some n) None ≡ None → 2 ^ 64 ≤ n
    go true is e = absurd cc
    go false is e = ltb-false n (2 ^ 64) is

-- the digit at a place is one too many
pub stays_too_large : (high digit : ℕ) (digits : List ℕ) → fitting (high * 10 + (digit - 0x30)) ≡ None → fitting (digits_onto high (digit ∷ digits)) ≡ None
stays_too_large high digit digits e = too_large (high * 10 + (digit - 0x30)) digits (none_fits (high * 10 + (digit - 0x30)) e)

pub fits : (n : ℕ) → n < 2 ^ 64 → fitting n ≡ Some n
fits n lt = rw (lt-ltb n (2 ^ 64) lt) refl

pub fitting_is : (n m : ℕ) → fitting n ≡ Some m → (m < 2 ^ 64) × (n ≡ m)
fitting_is n m e = let g = guard_some (ltb n (2 ^ 64)) n m e in (subst (λ x. x < 2 ^ 64) g.1 (ltb-true n (2 ^ 64) g.0), g.1)

pub all_read : (high : ℕ) (digits : List ℕ) → length digits ≡ 0 → digits_onto high digits ≡ high
all_read high [] none = refl
all_read high (b ∷ digits) none = absurd (omega arith)

-- ---- so few digits that their value fits

-- what a value is below if so many digits are to come
pub room : ℕ → ℕ
room n = 2 ^ 64 / 10 ^ n - 24

room_step : (n : ℕ) → n < 16 → room (suc n) * 10 + 198 ≤ room n
unfolding room passes_below
room_step n lt = leb-true _ _ (passes_at (λ k. leb (room (suc k) * 10 + 198) (room k)) 16 refl n lt)

pub room_is_in_64_bits : (n : ℕ) → n < 17 → room n ≤ 2 ^ 64
unfolding room passes_below
room_is_in_64_bits n lt = leb-true _ _ (passes_at (λ k. leb (room k) (2 ^ 64)) 17 refl n lt)

pub room_at_first : (n : ℕ) → n < 17 → 0 < room n
unfolding room passes_below
room_at_first n lt = leb-true _ _ (passes_at (λ k. leb 1 (room k)) 17 refl n lt)

pub room_for_digit : (left value digit : ℕ) → 0 < left → left ≤ 16 → digit < 256 → value < room left → value * 10 + (digit - 0x30) < room (left - 1)
room_for_digit zero value digit some le byte lt = absurd (omega arith)
room_for_digit (suc n) value digit some le byte lt =
    let step = room_step n (omega arith) in
    let same : suc n - 1 ≡ n = omega arith in
    rw same (omega arith)
