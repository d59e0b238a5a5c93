-- What groups of rows are, and what the parts of several shards give together.
use Rattle.std.specs.Prelude.{ℕ, ◌+◌, ◌^◌, ◌<◌, ◌≤◌, ◌==◌, ◌++◌, not, List, [], ◌∷◌, map, filter, take, sum_by, if◌then◌else◌}
use Rattle.vt_value.specs.declared.value.Value.{Value}
use Rattle.vt_value.specs.declared.value.Value.TheVariants.{Null, Int}
use Rattle.vt_value.specs.Values.{Row, value_at, same_row}
use Rattle.operators.specs.Item.{Item}
use Rattle.operators.specs.Item.TheVariants.{Column, CountRows, Count, Sum, Min, Max}
use Rattle.aggregate.specs.Aggregates.{present, size, total, sum_of, least_of, greatest_of}

-- each once, at its first position
abbrev pub distinct : List Row → List Row
distinct [] = []
distinct (key ∷ keys) = key ∷ filter (λ other. not (same_row key other)) (distinct keys)

-- The join of the parts of an aggregate: counts and sums are added, and NULL is the part of no values. A column that isn't aggregated
-- has none.
abbrev pub joined_part : Item ℕ → List Value → Value
joined_part (Column c) parts = Null
joined_part CountRows parts = Int (total (present parts))
joined_part (Count c) parts = Int (total (present parts))
joined_part (Sum c) parts = sum_of (present parts)
joined_part (Min c) parts = least_of (present parts)
joined_part (Max c) parts = greatest_of (present parts)

-- those of several aggregates, whose parts are in one column each from an ordinal on
abbrev pub joined_parts : List (Item ℕ) → ℕ → List Row → List Value
joined_parts [] n rows = []
joined_parts (a ∷ aggregates) n rows = joined_part a (map (λ row. value_at row n) rows) ∷ joined_parts aggregates (n + 1) rows

-- the rows of a group, which begin with its values
abbrev pub of_group : ℕ → Row → List Row → List Row
of_group width key rows = filter (λ row. same_row key (take width row)) rows

-- the groups' values, in the order in which they come first. Without group values there is one group, also of no rows.
abbrev pub group_keys : ℕ → List Row → List Row
group_keys width rows = if width == 0 then [] ∷ [] else distinct (map (take width) rows)

-- one row for each group: its values, and then the joined parts
abbrev pub joined_rows : List (Item ℕ) → ℕ → List Row → List Row
joined_rows aggregates width rows =
    map (λ key. key ++ joined_parts aggregates width (of_group width key rows)) (group_keys width rows)

-- the numbers of a column in size, together
abbrev pub column_size : ℕ → List Row → ℕ
column_size n rows = sum_by (λ row. size (value_at row n)) rows

-- in each column after the group values they stay below 2^127, so that every sum of parts fits
abbrev pub AreSummable : ℕ → List Row → Type 0
AreSummable width rows = (n : ℕ) → width ≤ n → column_size n rows < 2 ^ 127
