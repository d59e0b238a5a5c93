-- Lemmas: a key's keyspace id gives the key back, and a number whose bits are reversed twice is the number.
use Rattle.std.proofs.Common.{◌≡◌, ℕ, zero, suc, ◌+◌, ◌*◌, ◌/◌, ◌%◌, ◌^◌, ◌<◌, Some, ap, ◌∙◌, arith}
use Rattle.std.specs.Option.{option_map}
use Rattle.std.specs.Int.{w64, reverse_bits, reverse_bits_onto}
use Rattle.std.proofs.Math.Nat.{pow-suc}
use Rattle.std.proofs.lemmas.Nat.{from_be_bytes-to_be_bytes_8}
use Rattle.vindex.specs.KeyspaceIds.{numeric, reversed}
use Rattle.vindex.specs.Keys.{key_number, reversed_number_of}

-- the lowest k bits in reverse
abbrev pub r : ℕ → ℕ → ℕ
r k n = reverse_bits_onto k n 0

shifted : (a b p x : ℕ) → (a * 2 + b) * p + x ≡ a * (p * 2) + ((0 * 2 + b) * p + x)
shifted a b p x = grind arith

-- what was reversed before stands above
pub onto : (k n a : ℕ) → reverse_bits_onto k n a ≡ a * 2 ^ k + r k n
unfolding reverse_bits_onto
onto zero n a = omega arith
onto (suc k) n a =
    rw (onto k (n / 2) (a * 2 + n % 2), onto k (n / 2) (0 * 2 + n % 2), pow-suc 2 k) (shifted a (n % 2) (2 ^ k) (r k (n / 2)))

-- the lowest bit becomes the highest
pub low : (k n : ℕ) → r (suc k) n ≡ n % 2 * 2 ^ k + r k (n / 2)
unfolding reverse_bits_onto
low k n = onto k (n / 2) (0 * 2 + n % 2) ∙ omega arith

below : (b p x : ℕ) → b < 2 → x < p → b * p + x < p * 2
below zero p x h g = omega arith
below (suc zero) p x h g = omega arith
below (suc (suc b)) p x h g = absurd (omega arith)

pub bound : (k n : ℕ) → r k n < 2 ^ k
unfolding reverse_bits_onto
bound zero n = omega arith
bound (suc k) n = rw (low k n, pow-suc 2 k) (below (n % 2) (2 ^ k) (r k (n / 2)) (omega arith) (bound k (n / 2)))

halved : (h p m : ℕ) → (h * (p * 2) + m) / 2 ≡ h * p + m / 2
halved h p m = let e : h * (p * 2) ≡ h * p * 2 = grind arith in omega arith

parity : (h p m : ℕ) → (h * (p * 2) + m) % 2 ≡ m % 2
parity h p m = let e : h * (p * 2) ≡ h * p * 2 = grind arith in omega arith

pub half_below : (k n : ℕ) → n < 2 ^ suc k → n / 2 < 2 ^ k
half_below k n h = let e : 2 ^ suc k ≡ 2 ^ k * 2 = pow-suc 2 k in omega arith

doubled : (b p x h : ℕ) → b * (p * 2) + (2 * x + h) ≡ 2 * (b * p + x) + h
doubled b p x h = grind arith

-- the highest bit becomes the lowest
high : (k h m : ℕ) → h < 2 → m < 2 ^ k → r (suc k) (h * 2 ^ k + m) ≡ 2 * r k m + h
unfolding reverse_bits_onto
high zero h m s t = omega arith
high (suc k) h m s t =
    low (suc k) (h * 2 ^ suc k + m)
    ∙ rw (pow-suc 2 k, parity h (2 ^ k) m, halved h (2 ^ k) m, high k h (m / 2) s (half_below k m t), low k m)
    (doubled (m % 2) (2 ^ k) (r k (m / 2)) h)

pub twice : (k n : ℕ) → n < 2 ^ k → r k (r k n) ≡ n
unfolding reverse_bits_onto
twice zero n h = omega arith
twice (suc k) n h =
    ap (r (suc k)) (low k n)
    ∙ high k (n % 2) (r k (n / 2)) (omega arith) (bound k (n / 2))
    ∙ rw (twice k (n / 2) (half_below k n h)) (omega arith)

pub numeric_back : (n : ℕ) → n < 2 ^ 64 → key_number (numeric n) ≡ Some n
numeric_back n h = ap Some (from_be_bytes-to_be_bytes_8 n h)

pub reversed_back : (n : ℕ) → n < 2 ^ 64 → reversed_number_of (reversed n) ≡ Some n
reversed_back n h =
    ap (option_map (reverse_bits w64)) (numeric_back (reverse_bits w64 n) (bound 64 n)) ∙ ap Some (twice 64 n h)

pub reversed_again : (n : ℕ) → n < 2 ^ 64 → reversed (reverse_bits w64 n) ≡ numeric n
reversed_again n h = ap numeric (twice 64 n h)
