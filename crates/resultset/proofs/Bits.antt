-- Bits that are packed one after another are the bytes of their number.
use Rattle.std.proofs.Common.{◌≡◌, ℕ, suc, ◌+◌, ◌*◌, ◌/◌, ◌%◌, ◌<◌, Bool, true, false, List, [], ◌∷◌, length, map, refl, ◌∙◌, arith}
use Rattle.std.proofs.lemmas.List.{length-map}
use Rattle.vt_value.specs.Values.{Row, is_null}
use Rattle.mysql_packet.specs.Numbers.{little_endian}
use Rattle.resultset.specs.BinaryRows.{number_of_bits, null_bitmap}
use Rattle.resultset.specs.inner.Packing.{packed}

-- the place of a bit in its byte, and what it counts
data Place : ℕ → ℕ → Type 0 where
  p0 : Place 0 1
  p1 : Place 1 2
  p2 : Place 2 4
  p3 : Place 3 8
  p4 : Place 4 16
  p5 : Place 5 32
  p6 : Place 6 64
  p7 : Place 7 128

same : (m n a b : ℕ) → m ≡ n → a ≡ b → little_endian m a ≡ little_endian n b
same m n a b e f = rw (e, f) refl

last : (k byte whole : ℕ) → k ≡ 1 → byte < 256 → whole ≡ byte → byte ∷ [] ≡ little_endian k whole
last k byte whole e lt w =
    let low : byte % 256 ≡ byte = omega arith in
    rw (e, w, low) refl

carry : (k n x m whole : ℕ) (bytes : List ℕ) → k ≡ suc n → x < 256 → whole ≡ x + 256 * m → bytes ≡ little_endian n m → x ∷ bytes ≡ little_endian k whole
carry k n x m whole bytes e lt w b =
    let low : whole % 256 ≡ x = omega arith in
    let high : whole / 256 ≡ m = omega arith in
    rw (e, b, low, high) refl

packed_is : {k bit : ℕ} → Place k bit → (byte : ℕ) (bits : List Bool) → byte < bit
    → packed bit byte bits ≡ little_endian ((k + length bits + 7) / 8) (byte + bit * number_of_bits bits)
packed_is p0 byte [] lt = refl
packed_is p0 byte (true ∷ bits) lt =
    packed_is p1 (byte + 1) bits (omega (arith, lt))
    ∙ same ((1 + length bits + 7) / 8) ((0 + suc (length bits) + 7) / 8) (byte + 1 + 2 * number_of_bits bits) (byte + 1 * (1 + 2 * number_of_bits bits)) (omega arith) (omega arith)
packed_is p0 byte (false ∷ bits) lt =
    packed_is p1 (byte) bits (omega (arith, lt))
    ∙ same ((1 + length bits + 7) / 8) ((0 + suc (length bits) + 7) / 8) (byte + 2 * number_of_bits bits) (byte + 1 * (2 * number_of_bits bits)) (omega arith) (omega arith)
packed_is p1 byte [] lt = last ((1 + 0 + 7) / 8) byte (byte + 2 * 0) refl (omega (arith, lt)) (omega arith)
packed_is p1 byte (true ∷ bits) lt =
    packed_is p2 (byte + 2) bits (omega (arith, lt))
    ∙ same ((2 + length bits + 7) / 8) ((1 + suc (length bits) + 7) / 8) (byte + 2 + 4 * number_of_bits bits) (byte + 2 * (1 + 2 * number_of_bits bits)) (omega arith) (omega arith)
packed_is p1 byte (false ∷ bits) lt =
    packed_is p2 (byte) bits (omega (arith, lt))
    ∙ same ((2 + length bits + 7) / 8) ((1 + suc (length bits) + 7) / 8) (byte + 4 * number_of_bits bits) (byte + 2 * (2 * number_of_bits bits)) (omega arith) (omega arith)
packed_is p2 byte [] lt = last ((2 + 0 + 7) / 8) byte (byte + 4 * 0) refl (omega (arith, lt)) (omega arith)
packed_is p2 byte (true ∷ bits) lt =
    packed_is p3 (byte + 4) bits (omega (arith, lt))
    ∙ same ((3 + length bits + 7) / 8) ((2 + suc (length bits) + 7) / 8) (byte + 4 + 8 * number_of_bits bits) (byte + 4 * (1 + 2 * number_of_bits bits)) (omega arith) (omega arith)
packed_is p2 byte (false ∷ bits) lt =
    packed_is p3 (byte) bits (omega (arith, lt))
    ∙ same ((3 + length bits + 7) / 8) ((2 + suc (length bits) + 7) / 8) (byte + 8 * number_of_bits bits) (byte + 4 * (2 * number_of_bits bits)) (omega arith) (omega arith)
packed_is p3 byte [] lt = last ((3 + 0 + 7) / 8) byte (byte + 8 * 0) refl (omega (arith, lt)) (omega arith)
packed_is p3 byte (true ∷ bits) lt =
    packed_is p4 (byte + 8) bits (omega (arith, lt))
    ∙ same ((4 + length bits + 7) / 8) ((3 + suc (length bits) + 7) / 8) (byte + 8 + 16 * number_of_bits bits) (byte + 8 * (1 + 2 * number_of_bits bits)) (omega arith) (omega arith)
packed_is p3 byte (false ∷ bits) lt =
    packed_is p4 (byte) bits (omega (arith, lt))
    ∙ same ((4 + length bits + 7) / 8) ((3 + suc (length bits) + 7) / 8) (byte + 16 * number_of_bits bits) (byte + 8 * (2 * number_of_bits bits)) (omega arith) (omega arith)
packed_is p4 byte [] lt = last ((4 + 0 + 7) / 8) byte (byte + 16 * 0) refl (omega (arith, lt)) (omega arith)
packed_is p4 byte (true ∷ bits) lt =
    packed_is p5 (byte + 16) bits (omega (arith, lt))
    ∙ same ((5 + length bits + 7) / 8) ((4 + suc (length bits) + 7) / 8) (byte + 16 + 32 * number_of_bits bits) (byte + 16 * (1 + 2 * number_of_bits bits)) (omega arith) (omega arith)
packed_is p4 byte (false ∷ bits) lt =
    packed_is p5 (byte) bits (omega (arith, lt))
    ∙ same ((5 + length bits + 7) / 8) ((4 + suc (length bits) + 7) / 8) (byte + 32 * number_of_bits bits) (byte + 16 * (2 * number_of_bits bits)) (omega arith) (omega arith)
packed_is p5 byte [] lt = last ((5 + 0 + 7) / 8) byte (byte + 32 * 0) refl (omega (arith, lt)) (omega arith)
packed_is p5 byte (true ∷ bits) lt =
    packed_is p6 (byte + 32) bits (omega (arith, lt))
    ∙ same ((6 + length bits + 7) / 8) ((5 + suc (length bits) + 7) / 8) (byte + 32 + 64 * number_of_bits bits) (byte + 32 * (1 + 2 * number_of_bits bits)) (omega arith) (omega arith)
packed_is p5 byte (false ∷ bits) lt =
    packed_is p6 (byte) bits (omega (arith, lt))
    ∙ same ((6 + length bits + 7) / 8) ((5 + suc (length bits) + 7) / 8) (byte + 64 * number_of_bits bits) (byte + 32 * (2 * number_of_bits bits)) (omega arith) (omega arith)
packed_is p6 byte [] lt = last ((6 + 0 + 7) / 8) byte (byte + 64 * 0) refl (omega (arith, lt)) (omega arith)
packed_is p6 byte (true ∷ bits) lt =
    packed_is p7 (byte + 64) bits (omega (arith, lt))
    ∙ same ((7 + length bits + 7) / 8) ((6 + suc (length bits) + 7) / 8) (byte + 64 + 128 * number_of_bits bits) (byte + 64 * (1 + 2 * number_of_bits bits)) (omega arith) (omega arith)
packed_is p6 byte (false ∷ bits) lt =
    packed_is p7 (byte) bits (omega (arith, lt))
    ∙ same ((7 + length bits + 7) / 8) ((6 + suc (length bits) + 7) / 8) (byte + 128 * number_of_bits bits) (byte + 64 * (2 * number_of_bits bits)) (omega arith) (omega arith)
packed_is p7 byte [] lt = last ((7 + 0 + 7) / 8) byte (byte + 128 * 0) refl (omega (arith, lt)) (omega arith)
packed_is p7 byte (true ∷ bits) lt =
    carry ((7 + suc (length bits) + 7) / 8) ((length bits + 7) / 8) (byte + 128) (number_of_bits bits) (byte + 128 * (1 + 2 * number_of_bits bits)) (packed 1 0 bits) (omega arith) (omega (arith, lt)) (omega arith)
    (packed_is p0 0 bits (omega arith) ∙ same ((0 + length bits + 7) / 8) ((length bits + 7) / 8) (0 + 1 * number_of_bits bits) (number_of_bits bits) (omega arith) (omega arith))
packed_is p7 byte (false ∷ bits) lt =
    carry ((7 + suc (length bits) + 7) / 8) ((length bits + 7) / 8) (byte) (number_of_bits bits) (byte + 128 * (2 * number_of_bits bits)) (packed 1 0 bits) (omega arith) (omega (arith, lt)) (omega arith)
    (packed_is p0 0 bits (omega arith) ∙ same ((0 + length bits + 7) / 8) ((length bits + 7) / 8) (0 + 1 * number_of_bits bits) (number_of_bits bits) (omega arith) (omega arith))

pub packed_row : (row : Row) → packed 4 0 (map is_null row) ≡ null_bitmap row
packed_row row =
    let n : length (map is_null row) ≡ length row = simp length-map in
    packed_is p2 0 (map is_null row) (omega arith)
    ∙ same ((2 + length (map is_null row) + 7) / 8) ((length row + 9) / 8) (0 + 4 * number_of_bits (map is_null row)) (4 * number_of_bits (map is_null row))
    (omega (arith, n)) (omega arith)
