-- Hexadecimal digits: a byte string is spelled in one way, and a text spells one byte string.
use Rattle.std.proofs.Common.{◌≡◌, ℕ, ◌/◌, ◌%◌, ◌<◌, nat_lt, false, List, [], ◌∷◌, ◌++◌, ◌==◌, length, slice_index, append-nil, length-append, refl, sym, ap, ◌∙◌, arith}
use Rattle.std.proofs.lemmas.Bool.{and_parts, and_from}
use Rattle.std.proofs.lemmas.Bool.Decides.{nat_tests}
use Rattle.std.specs.List.{list_all}
use Rattle.keyrange.specs.Ranges.{IsByteString}
use Rattle.keyrange.specs.Names.{hex_digit, hex}

pub hex_digit_one : (a b : ℕ) → a < 16 → b < 16 → hex_digit a ≡ hex_digit b → a ≡ b
hex_digit_one a b h g e = grind (arith, nat_tests)

pub hex_cons : (b : ℕ) (bs : List ℕ) → hex (b ∷ bs) ≡ hex_digit (b / 16) ∷ hex_digit (b % 16) ∷ hex bs
hex_cons b bs = refl

pub byte_of : (b : ℕ) (bs : List ℕ) → IsByteString (b ∷ bs) → (b < 256) × IsByteString bs
byte_of b bs h = let p = and_parts (nat_lt b 256) (list_all (λ b. nat_lt b 256) bs) h in (grind (arith, nat_tests), p.1)

pub bytes_cons : (b : ℕ) (bs : List ℕ) → b < 256 → IsByteString bs → IsByteString (b ∷ bs)
bytes_cons b bs h g = and_from (nat_lt b 256) (list_all (λ b. nat_lt b 256) bs) (grind (arith, nat_tests)) g

pub bytes_push : (bs : List ℕ) (b : ℕ) → IsByteString bs → b < 256 → IsByteString (bs ++ b ∷ [])
bytes_push [] b h g = bytes_cons b [] g refl
bytes_push (x ∷ bs) b h g = let p = byte_of x bs h in bytes_cons x (bs ++ b ∷ []) p.0 (bytes_push bs b p.1 g)

pub hex_push : (bs : List ℕ) (b : ℕ) → hex (bs ++ b ∷ []) ≡ hex bs ++ hex_digit (b / 16) ∷ hex_digit (b % 16) ∷ []
hex_push [] b = refl
hex_push (x ∷ bs) b = ap (λ t. hex_digit (x / 16) ∷ hex_digit (x % 16) ∷ t) (hex_push bs b)

same_byte : (a b : ℕ) → a < 256 → b < 256 → hex_digit (a / 16) ≡ hex_digit (b / 16) → hex_digit (a % 16) ≡ hex_digit (b % 16) → a ≡ b
same_byte a b h g e f =
    let high = hex_digit_one (a / 16) (b / 16) (omega arith) (omega arith) e in
    let low = hex_digit_one (a % 16) (b % 16) (omega arith) (omega arith) f in
    omega arith

-- what comes after the digits of a
pub hex_split : (a e rest : List ℕ) → IsByteString a → IsByteString e → hex e ≡ hex a ++ rest
    → (more : List ℕ) × IsByteString more × (e ≡ a ++ more) × (hex more ≡ rest)
hex_split [] e rest h g i = (e, g, refl, i)
hex_split (x ∷ a) [] rest h g i = cc
hex_split (x ∷ a) (y ∷ e) rest h g i =
    let p = byte_of x a h in
    let q = byte_of y e g in
    let w = hex_split a e rest p.1 q.1 (cc) in
    let s = same_byte y x q.0 p.0 (cc) (cc) in
    (w.0, w.1, cc, w.3)

-- a pair of digits that a byte string has next
pub record NextByte (a e rest : List ℕ) : Type 0 where
  pub byte : ℕ
  pub fits : byte < 256
  pub high : hex_digit (byte / 16) ≡ slice_index rest 0
  pub low : hex_digit (byte % 16) ≡ slice_index rest 1
  pub longer : length a < length e

pub next_byte : (a e rest : List ℕ) → IsByteString a → IsByteString e → hex e ≡ hex a ++ rest → 0 < length rest → NextByte a e rest
next_byte a e rest h g i up = let w = hex_split a e rest h g i in by w.0 w.1 w.2 w.3
  where
    by : (more : List ℕ) → IsByteString more → e ≡ a ++ more → hex more ≡ rest → NextByte a e rest
    by [] s j k = absurd (omega (arith, ap length k))
    by (b ∷ bs) s j k =
        let p = byte_of b bs s in
        record {
          byte = b;
          fits = p.0;
          high = ap (λ t. slice_index t 0) k;
          low = ap (λ t. slice_index t 1) k;
          longer = omega (arith, ap length j, length-append a (b ∷ bs));
        }

pub all_read : (a e rest : List ℕ) → IsByteString a → IsByteString e → hex e ≡ hex a ++ rest → length rest ≡ 0 → a ≡ e
all_read a e rest h g i end = let w = hex_split a e rest h g i in by w.0 w.2 w.3
  where
    by : (more : List ℕ) → e ≡ a ++ more → hex more ≡ rest → a ≡ e
    by [] j k = sym (append-nil a) ∙ sym j
    by (b ∷ bs) j k = absurd (omega (arith, ap length k))

-- digits come in pairs
pub never_odd : (a e rest : List ℕ) → IsByteString a → IsByteString e → hex e ≡ hex a ++ rest → length rest ≡ 1 → ⊥
never_odd a e rest h g i one = let w = hex_split a e rest h g i in by w.0 w.3
  where
    by : (more : List ℕ) → hex more ≡ rest → ⊥
    by [] k = absurd (omega (arith, ap length k))
    by (b ∷ bs) k = absurd (omega (arith, ap length k))

pub one_left : (n : ℕ) → (n == 0) ≡ false → n < 2 → n ≡ 1
one_left n h g = grind (arith, nat_tests)
