-- Neighbouring blocks of bits change places by a mask; after blocks of 1, 2 and 4 bits each byte is in reverse.
use Rattle.std.proofs.Common.{◌≡◌, ℕ, zero, suc, ◌+◌, ◌*◌, ◌/◌, ◌%◌, ◌^◌, ◌-◌, ◌<◌, [], ◌∷◌, get_or, refl, sym, ap, ◌∙◌, arith}
use Rattle.std.specs.Int.{w64, to_le_bytes, reverse_bits, reverse_bits_onto}
use Rattle.std.specs.Int.RustNames.{bit_and}
use Rattle.std.proofs.lemmas.Nat.{be_bytes_8, le_bytes_8, and_block, and_mask, pow-add, shr-shr, pow_pos, shr_high, mod_low, div-add-mod', mul-add-lt, mod_below}
use Rattle.std.proofs.Math.Nat.{div-one}
use Rattle.vindex.specs.KeyspaceIds.{reversed}
use Rattle.vindex.specs.inner.Reversal.{r, low, bound, half_below}
use Rattle.vindex.specs.inner.Swaps.{blocks, reversed_in_bytes}

cat_step : (b p q x y : ℕ) → b * (p * q) + (x * q + y) ≡ (b * p + x) * q + y
cat_step b p q x y = grind arith

-- the lowest j bits of n, last first, and the k bits above them
pub cat : (j k n : ℕ) → r (j + k) n ≡ r j n * 2 ^ k + r k (n / 2 ^ j)
unfolding reverse_bits_onto
cat zero k n =
    let a : 0 + k ≡ k = omega arith in
    let b : r k n ≡ 0 * 2 ^ k + r k n = omega arith in
    ap (λ z. r z n) a ∙ b ∙ ap (λ z. 0 * 2 ^ k + r k z) (sym (div-one n))
cat (suc j) k n =
    let a : suc j + k ≡ suc (j + k) = omega arith in
    let s : 1 + j ≡ suc j = omega arith in
    let d : n / 2 / 2 ^ j ≡ n / 2 ^ suc j = shr-shr n 1 j ∙ ap (λ z. n / 2 ^ z) s in
    ap (λ z. r z n) a ∙ low (j + k) n
    ∙ rw (pow-add 2 j k, cat j k (n / 2), low j n, d) (cat_step (n % 2) (2 ^ j) (2 ^ k) (r j (n / 2)) (r k (n / 2 ^ suc j)))

-- a block of one bit each
pub bits_alone : (m n : ℕ) → n < 2 ^ m → blocks 1 m n ≡ n
unfolding reverse_bits_onto
bits_alone zero n h = omega arith
bits_alone (suc m) n h = rw (bits_alone m (n / 2) (half_below m n h)) (omega arith)

abbrev pub twice : ℕ → ℕ
twice zero = zero
twice (suc m) = suc (suc (twice m))

abbrev pub mask : ℕ → ℕ → ℕ
mask k zero = zero
mask k (suc m) = mask k m * 2 ^ (k + k) + (2 ^ k - 1)

-- blocks of k bits change places with their neighbours
abbrev pub swapped : ℕ → ℕ → ℕ → ℕ
swapped k m n = bit_and (n / 2 ^ k) m + bit_and n m * 2 ^ k

square_of : (k x y : ℕ) → x < 2 ^ k → y < 2 ^ k → x * 2 ^ k + y < 2 ^ (k + k)
square_of k x y s t = rw (pow-add 2 k k) (mul-add-lt x (2 ^ k) y (2 ^ k) s t)

ones_below : (k : ℕ) → 2 ^ k - 1 < 2 ^ (k + k)
ones_below k =
    let p = pow_pos k in
    let b = square_of k 0 (2 ^ k - 1) p (omega (arith, p)) in
    omega (arith, b)

lower : (k m a h l : ℕ) → h < 2 ^ k → l < 2 ^ k → bit_and (a * 2 ^ (k + k) + (h * 2 ^ k + l)) (m * 2 ^ (k + k) + (2 ^ k - 1)) ≡ bit_and a m * 2 ^ (k + k) + l
lower k m a h l s t =
    and_block (k + k) a m (h * 2 ^ k + l) (2 ^ k - 1) (square_of k h l s t) (ones_below k)
    ∙ ap (λ z. bit_and a m * 2 ^ (k + k) + z) (and_mask (h * 2 ^ k + l) k ∙ mod_low h k l t)

regroup : (q p t h : ℕ) → (q * p + t) * p + h ≡ q * (p * p) + (t * p + h)
regroup q p t h = grind arith

upper : (k m a h : ℕ) → h < 2 ^ k → bit_and (a * 2 ^ k + h) (m * 2 ^ (k + k) + (2 ^ k - 1)) ≡ bit_and (a / 2 ^ k) m * 2 ^ (k + k) + h
upper k m a h s =
    let p = 2 ^ k in
    let split : a * p + h ≡ a / p * 2 ^ (k + k) + (a % p * p + h) =
    ap (λ z. z * p + h) (sym (div-add-mod' a p)) ∙ regroup (a / p) p (a % p) h ∙ ap (λ z. a / p * z + (a % p * p + h)) (sym (pow-add 2 k k)) in
    ap (λ z. bit_and z (m * 2 ^ (k + k) + (2 ^ k - 1))) split ∙ lower k m (a / p) (a % p) h (mod_below a p (pow_pos k)) s

sum_step : (x y q p h l : ℕ) → (x * q + h) + (y * q + l) * p ≡ (x + y * p) * q + (l * p + h)
sum_step x y q p h l = grind arith

next : (k m a h l : ℕ) → h < 2 ^ k → l < 2 ^ k
    → swapped k (m * 2 ^ (k + k) + (2 ^ k - 1)) (a * 2 ^ (k + k) + (h * 2 ^ k + l)) ≡ swapped k m a * 2 ^ (k + k) + (l * 2 ^ k + h)
next k m a h l s t =
    let p = 2 ^ k in
    let full = m * 2 ^ (k + k) + (2 ^ k - 1) in
    let whole : a * 2 ^ (k + k) + (h * p + l) ≡ (a * p + h) * p + l = ap (λ z. a * z + (h * p + l)) (pow-add 2 k k) ∙ sym (regroup a p h l) in
    let high : (a * 2 ^ (k + k) + (h * p + l)) / p ≡ a * p + h = ap (λ z. z / p) whole ∙ shr_high (a * p + h) k l t in
    ap (λ z. bit_and z full + bit_and (a * 2 ^ (k + k) + (h * p + l)) full * p) high
    ∙ ap (λ z. z + bit_and (a * 2 ^ (k + k) + (h * p + l)) full * p) (upper k m a h s)
    ∙ ap (λ z. (bit_and (a / p) m * 2 ^ (k + k) + h) + z * p) (lower k m a h l s t)
    ∙ sum_step (bit_and (a / p) m) (bit_and a m) (2 ^ (k + k)) p h l

nothing : (n : ℕ) → bit_and n 0 ≡ 0
nothing n = and_mask n 0 ∙ omega arith

pub pairs : (w m n : ℕ) → swapped w (mask w m) (blocks w (twice m) n) ≡ blocks (w + w) m n
pairs w zero n = rw (nothing (0 / 2 ^ w), nothing 0) (omega arith)
pairs w (suc m) n =
    let p = 2 ^ w in
    let a = blocks w (twice m) (n / p / p) in
    let h = r w (n / p) in
    let l = r w n in
    let whole : (a * p + h) * p + l ≡ a * 2 ^ (w + w) + (h * p + l) = regroup a p h l ∙ ap (λ z. a * z + (h * p + l)) (sym (pow-add 2 w w)) in
    ap (swapped w (mask w (suc m))) whole ∙ next w (mask w m) a h l (bound w (n / p)) (bound w n)
    ∙ ap (λ z. z * 2 ^ (w + w) + (l * p + h)) (pairs w m (n / p / p) ∙ ap (blocks (w + w) m) (shr-shr n w w))
    ∙ ap (λ z. blocks (w + w) m (n / 2 ^ (w + w)) * 2 ^ (w + w) + z) (sym (cat w w n))

-- the blocks of 8 bits, from the lowest, and each number without its lowest 8 bits
pub of_bytes : (n : ℕ) → to_le_bytes w64 (reversed_in_bytes n) ≡ reversed n
of_bytes n =
    let n1 = n / 256 in
    let n2 = n1 / 256 in
    let n3 = n2 / 256 in
    let n4 = n3 / 256 in
    let n5 = n4 / 256 in
    let n6 = n5 / 256 in
    let n7 = n6 / 256 in
    let bs = r 8 n ∷ r 8 n1 ∷ r 8 n2 ∷ r 8 n3 ∷ r 8 n4 ∷ r 8 n5 ∷ r 8 n6 ∷ r 8 n7 ∷ [] in
    le_bytes_8 bs (reversed_in_bytes n) refl (small n n1 n2 n3 n4 n5 n6 n7) (omega arith)
    ∙ sym (be_bytes_8 bs (reverse_bits w64 n) refl (small n n1 n2 n3 n4 n5 n6 n7)
    (omega (arith, cat 8 56 n, cat 8 48 n1, cat 8 40 n2, cat 8 32 n3, cat 8 24 n4, cat 8 16 n5, cat 8 8 n6)))
  where
    small : (a b c d e f g h i : ℕ) → get_or (r 8 a ∷ r 8 b ∷ r 8 c ∷ r 8 d ∷ r 8 e ∷ r 8 f ∷ r 8 g ∷ r 8 h ∷ []) i 0 < 256
    small a b c d e f g h zero = bound 8 a
    small a b c d e f g h (suc zero) = bound 8 b
    small a b c d e f g h (suc (suc zero)) = bound 8 c
    small a b c d e f g h (suc (suc (suc zero))) = bound 8 d
    small a b c d e f g h (suc (suc (suc (suc zero)))) = bound 8 e
    small a b c d e f g h (suc (suc (suc (suc (suc zero))))) = bound 8 f
    small a b c d e f g h (suc (suc (suc (suc (suc (suc zero)))))) = bound 8 g
    small a b c d e f g h (suc (suc (suc (suc (suc (suc (suc zero))))))) = bound 8 h
    small a b c d e f g h (suc (suc (suc (suc (suc (suc (suc (suc i)))))))) = omega arith
