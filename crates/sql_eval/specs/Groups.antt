-- The groups of an aggregated query, and what is shown of each.
use Rattle.std.specs.Prelude.{ℕ, ◌^◌, ◌≤◌, ◌==◌, List, [], ◌∷◌, length, map, filter, drop, if◌then◌else◌}
use Rattle.std.specs.List.{AllByRecursion}
use Rattle.vt_value.specs.declared.value.Value.{Value}
use Rattle.vt_value.specs.declared.value.Value.TheVariants.{Null}
use Rattle.vt_value.specs.Values.{Row, value_at, same_row}
use Rattle.sql_tree.specs.declared.Item.{Item}
use Rattle.sql_tree.specs.declared.Item.TheVariants.{Column, CountRows, Count, Sum, Min, Max}
use Rattle.aggregate.specs.Slices.{columns_of}
use Rattle.aggregate.specs.Aggregates.{values_of, sum_of, least_of, greatest_of, count_of, IsColumnValue}
use Rattle.aggregate.specs.Groups.{distinct}

-- The values that stand for the groups: each that rows have in the columns of GROUP BY, once. Without GROUP BY there is one group, also of
-- no rows.
abbrev pub group_values : List ℕ → List Row → List Row
group_values [] rows = [] ∷ []
group_values (c ∷ columns) rows = distinct (map (columns_of (c ∷ columns)) rows)

-- the rows of a group: those with its values, where NULL is NULL
abbrev pub group_rows : List ℕ → Row → List Row → List Row
group_rows columns values rows = filter (λ row. same_row values (columns_of columns row)) rows

-- the value that a group has in a column of GROUP BY; NULL for another column, which no accepted query shows
abbrev pub group_value : List ℕ → Row → ℕ → Value
group_value [] values n = Null
group_value (c ∷ columns) values n = if c == n then value_at values 0 else group_value columns (drop 1 values) n

-- what an item shows of a group: an aggregate is over the values of its rows that aren't NULL, COUNT(*) over the rows
abbrev pub item_value : List ℕ → Row → List Row → Item ℕ → Value
item_value columns values rows (Column c) = group_value columns values c
item_value columns values rows CountRows = count_of rows
item_value columns values rows (Count c) = count_of (values_of c rows)
item_value columns values rows (Sum c) = sum_of (values_of c rows)
item_value columns values rows (Min c) = least_of (values_of c rows)
item_value columns values rows (Max c) = greatest_of (values_of c rows)

-- At most 2^60 rows, of values that columns may hold: each count and each sum of theirs fits.
abbrev pub CanBeSummed : List Row → Type 0
CanBeSummed rows = (length rows ≤ 2 ^ 60) × AllByRecursion (AllByRecursion IsColumnValue) rows
