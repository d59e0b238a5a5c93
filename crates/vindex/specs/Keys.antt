-- The key of a keyspace id.
use Rattle.std.specs.Prelude.{ℕ, List, length, ◌==◌, if◌then◌else◌, Option, Some, None}
use Rattle.std.specs.Option.{option_map}
use Rattle.std.specs.Int.{w64, from_be_bytes, reverse_bits}

-- the number of 8 bytes, the highest first
abbrev pub key_number : List ℕ → Option ℕ
key_number bytes = if length bytes == 8 then Some (from_be_bytes w64 bytes) else None

-- the number of which the 8 bytes are the bits in reverse
abbrev pub reversed_number_of : List ℕ → Option ℕ
reversed_number_of bytes = option_map (reverse_bits w64) (key_number bytes)
