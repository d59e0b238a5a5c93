-- How a group's values are hashed.
use Rattle.std.specs.Prelude.{ℕ, ◌+◌, ◌*◌, ◌^◌, nat_lt, ℤ, pos, negsuc, List, [], ◌∷◌, ◌++◌, length, flat_map, if◌then◌else◌}
use Rattle.std.specs.Hash as fed
use Rattle.vt_value.specs.declared.value.Value.{Value}
use Rattle.vt_value.specs.declared.value.Value.TheVariants.{Null, Int, Bytes}
use Rattle.vt_value.specs.Values.{Row}

-- a number from 0 on below 2^62 is a word after those of all other kinds
abbrev pub number_writes : ℤ → List (List ℕ)
number_writes (pos n) = if nat_lt n (2 ^ 62) then fed.u64 (3 * 2 ^ 62 + n) else fed.u64 1 ++ fed.i128 (pos n)
number_writes (negsuc n) = fed.u64 1 ++ fed.i128 (negsuc n)

-- a word that tells the kind, and of a text its length, and then the value: values that differ are written in bytes that differ
abbrev pub value_writes : Value → List (List ℕ)
value_writes Null = fed.u64 0
value_writes (Int n) = number_writes n
value_writes (Bytes t) = fed.u64 (2 + length t) ++ t ∷ []

abbrev pub row_writes : Row → List (List ℕ)
row_writes row = flat_map value_writes row
