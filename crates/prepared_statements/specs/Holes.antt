-- What comes for the holes of a statement before it is executed.
use Rattle.std.specs.Prelude.{◌≡◌, ℕ, zero, suc, ◌<◌, ◌^◌, List, [], ◌∷◌, ◌++◌, length, map, sum_by, Option, Some, None}
use Rattle.mysql_packet.specs.Numbers.{little_endian}

-- holes for which nothing came
abbrev pub no_long : List (Option (List ℕ)) → List (Option (List ℕ))
no_long long = map (λ _. None) long

-- what came for a hole before, and then this
abbrev pub appended : Option (List ℕ) → List ℕ → Option (List ℕ)
appended None more = Some more
appended (Some come) more = Some (come ++ more)

-- more for the hole of this number
abbrev pub put_long : List (Option (List ℕ)) → ℕ → List ℕ → List (Option (List ℕ))
put_long [] hole more = []
put_long (come ∷ long) zero more = appended come more ∷ long
put_long (come ∷ long) (suc hole) more = come ∷ put_long long hole more

-- how many bytes came for a hole
abbrev pub long_size : Option (List ℕ) → ℕ
long_size None = 0
long_size (Some content) = length content

abbrev pub all_long : List (Option (List ℕ)) → ℕ
all_long long = sum_by long_size long

-- the bytes are the number of a hole that is there, and data
pub record NamesHole (long : List (Option (List ℕ))) (bytes : List ℕ) (hole : ℕ) (more : List ℕ) : Type 0 where
  pub small : hole < 2 ^ 16
  pub there : hole < length long
  pub parts : bytes ≡ little_endian 2 hole ++ more

-- nothing for each of these pieces
abbrev pub none_each : List (List ℕ) → List (Option (List ℕ))
none_each pieces = map (λ _. None) pieces

-- a hole for each piece but the last
abbrev pub no_values : List (List ℕ) → List (Option (List ℕ))
no_values [] = []
no_values (p ∷ pieces) = none_each pieces
