-- Bits as bytes, one bit after another.
use Rattle.std.specs.Prelude.{ℕ, ◌+◌, ◌*◌, Bool, true, false, nat_le, List, [], ◌∷◌, if◌then◌else◌}

-- a byte with one more bit, which counts so much
abbrev pub with_bit : ℕ → ℕ → Bool → ℕ
with_bit bit byte true = byte + bit
with_bit bit byte false = byte

-- the bytes of these bits, if the next one counts so much in a byte that is begun
abbrev pub packed : ℕ → ℕ → List Bool → List ℕ
packed bit byte [] = if nat_le bit 1 then [] else byte ∷ []
packed bit byte (b ∷ bits) = if nat_le bit 64 then packed (bit * 2) (with_bit bit byte b) bits else with_bit bit byte b ∷ packed 1 0 bits
