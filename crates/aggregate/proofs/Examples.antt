-- The column c of values NULL, NULL, 7, 7, 9, 1, and the groups of two shards.
use Rattle.std.proofs.Common.{◌≡◌, ℕ, List, [], ◌∷◌, refl, pos, negsuc}
use Rattle.vt_value.specs.declared.value.Value.{Value}
use Rattle.vt_value.specs.declared.value.Value.TheVariants.{Null, Int}
use Rattle.vt_value.specs.Values.{Row}
use Rattle.operators.specs.Item.TheVariants.{CountRows, Count, Sum, Min, Max}
use Rattle.aggregate.specs.Aggregates.{present, count_of, sum_of, least_of, greatest_of}
use Rattle.aggregate.specs.Groups.{joined_rows}

abbrev n : ℕ → Value
n k = Int (pos k)

abbrev c : List Value
c = Null ∷ Null ∷ n 7 ∷ n 7 ∷ n 9 ∷ n 1 ∷ []

counted : count_of (present c) ≡ n 4
counted = refl

summed : sum_of (present c) ≡ n 24
summed = refl

least : least_of (present c) ≡ n 1
least = refl

greatest : greatest_of (present c) ≡ n 9
greatest = refl

-- over no values
no_count : count_of (present (Null ∷ [])) ≡ n 0
no_count = refl

no_sum : sum_of (present (Null ∷ [])) ≡ Null
no_sum = refl

no_least : least_of (present (Null ∷ [])) ≡ Null
no_least = refl

below_zero : least_of (n 3 ∷ Int (negsuc 4) ∷ []) ≡ Int (negsuc 4)
below_zero = refl

-- GROUP BY c with COUNT(*): one shard has NULL, 7, 7, 1 and another NULL, 9
abbrev parts : List Row
parts = (Null ∷ n 1 ∷ []) ∷ (n 7 ∷ n 2 ∷ []) ∷ (n 1 ∷ n 1 ∷ []) ∷ (Null ∷ n 1 ∷ []) ∷ (n 9 ∷ n 1 ∷ []) ∷ []

groups : joined_rows (CountRows ∷ []) 1 parts ≡ (Null ∷ n 2 ∷ []) ∷ (n 7 ∷ n 2 ∷ []) ∷ (n 1 ∷ n 1 ∷ []) ∷ (n 9 ∷ n 1 ∷ []) ∷ []
groups = refl

-- a shard without rows tells NULL for MIN and SUM, and 0 for COUNT
abbrev largest : Value
largest = n 18446744073709551615

wide :
    joined_rows (Min 0 ∷ Sum 0 ∷ Count 0 ∷ Max 0 ∷ []) 0 ((largest ∷ largest ∷ n 1 ∷ n 3 ∷ []) ∷ (Null ∷ Null ∷ n 0 ∷ Null ∷ []) ∷ (largest ∷ largest ∷ n 1 ∷ n 2 ∷ []) ∷ [])
    ≡ (largest ∷ n 36893488147419103230 ∷ n 2 ∷ n 3 ∷ []) ∷ []
wide = refl

-- without group values there is one row, also of none
one_row : joined_rows (CountRows ∷ Sum 0 ∷ []) 0 [] ≡ (n 0 ∷ Null ∷ []) ∷ []
one_row = refl

no_rows : joined_rows (CountRows ∷ []) 1 [] ≡ []
no_rows = refl
