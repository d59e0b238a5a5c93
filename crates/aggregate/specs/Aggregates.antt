-- What an aggregate gives over a bag of values. A bag is a list of which the order says nothing.
use Rattle.std.specs.Prelude.{ℕ, ◌^◌, ◌<◌, ℤ, pos, neg_ℤ, ◌+ℤ◌, ◌≤ℤ◌, ◌<ℤ◌, ⊤, unsigned_abs, sum_by, not, List, [], ◌∷◌, length, filter, map, if◌then◌else◌}
use Rattle.std.specs.Ordering.{is_lt}
use Rattle.vt_value.specs.declared.value.Value.{Value}
use Rattle.vt_value.specs.declared.value.Value.TheVariants.{Null, Int, Bytes}
use Rattle.vt_value.specs.Values.{Row, value_at, is_null, value_cmp}

-- the values that are not NULL
abbrev pub present : List Value → List Value
present vs = filter (λ v. not (is_null v)) vs

-- those of a column
abbrev pub values_of : ℕ → List Row → List Value
values_of n rows = present (map (λ row. value_at row n) rows)

abbrev pub number_in : Value → ℤ
number_in Null = pos 0
number_in (Int n) = n
number_in (Bytes t) = pos 0

-- how far a number is from 0
abbrev pub size : Value → ℕ
size v = unsigned_abs (number_in v)

abbrev pub total : List Value → ℤ
total [] = pos 0
total (v ∷ vs) = number_in v +ℤ total vs

-- SUM is exact; over no values it is NULL, as the least and the greatest are
abbrev pub sum_of : List Value → Value
sum_of [] = Null
sum_of (v ∷ vs) = Int (total (v ∷ vs))

abbrev pub lesser : Value → Value → Value
lesser a b = if is_lt (value_cmp b a) then b else a

abbrev pub greater : Value → Value → Value
greater a b = if is_lt (value_cmp a b) then b else a

abbrev pub least_of : List Value → Value
least_of [] = Null
least_of (v ∷ []) = v
least_of (v ∷ w ∷ vs) = lesser v (least_of (w ∷ vs))

abbrev pub greatest_of : List Value → Value
greatest_of [] = Null
greatest_of (v ∷ []) = v
greatest_of (v ∷ w ∷ vs) = greater v (greatest_of (w ∷ vs))

abbrev pub count_of : {X : Type 0} → List X → Value
count_of xs = Int (pos (length xs))

-- the numbers of values in size, together
abbrev pub sizes : List Value → ℕ
sizes vs = sum_by size vs

-- Fewer than 2^64 values, whose numbers stay below 2^127 together, as those of 2^60 values that columns hold do: every count and sum fits.
abbrev pub IsHeld : List Value → Type 0
IsHeld vs = (length vs < 2 ^ 64) × (sizes vs < 2 ^ 127)

-- a value that a column may hold: its numbers are those of BIGINT and BIGINT UNSIGNED
abbrev pub IsColumnValue : Value → Type 0
IsColumnValue Null = ⊤
IsColumnValue (Int n) = (neg_ℤ (pos (2 ^ 63)) ≤ℤ n) × (n <ℤ pos (2 ^ 64))
IsColumnValue (Bytes t) = ⊤
