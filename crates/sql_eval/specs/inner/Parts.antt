-- Each row as a part of its group, and the groups that such parts make up.
use Rattle.std.specs.Prelude.{ℕ, pos, List, ◌++◌, map, if◌then◌else◌}
use Rattle.vt_value.specs.declared.value.Value.{Value}
use Rattle.vt_value.specs.declared.value.Value.TheVariants.{Null, Int}
use Rattle.vt_value.specs.Values.{Row, value_at, is_null}
use Rattle.sql_tree.specs.declared.Item.{Item}
use Rattle.sql_tree.specs.declared.Item.TheVariants.{Column, CountRows, Count, Sum, Min, Max}
use Rattle.aggregate.specs.Slices.{columns_of}
use Rattle.vschema.specs.declared.schema.Query.{Query}
use Rattle.sql_eval.specs.Grouping.{aggregates_of, grouping_of, grouped}

-- 1 for a value, 0 for NULL
abbrev pub one_of : Value → Value
one_of v = if is_null v then Int (pos 0) else Int (pos 1)

-- the part of an aggregate that a row is
abbrev pub row_part : Row → Item ℕ → Value
row_part row (Column c) = Null
row_part row CountRows = Int (pos 1)
row_part row (Count c) = one_of (value_at row c)
row_part row (Sum c) = value_at row c
row_part row (Min c) = value_at row c
row_part row (Max c) = value_at row c

-- the values of its group, and after them the parts
abbrev pub part_row : List ℕ → List (Item ℕ) → Row → Row
part_row columns aggregates row = columns_of columns row ++ map (row_part row) aggregates

-- the rows of the groups of these rows
abbrev pub grouped_rows : Query → List Row → List Row
grouped_rows q rows = grouped (grouping_of q) (map (part_row q.group_by (aggregates_of q.items)) rows)

-- the one group of so many rows, of which nothing but COUNT(*) is asked
abbrev pub counted_row : List (Item ℕ) → ℕ → Row
counted_row aggregates n = map (λ a. Int (pos n)) aggregates
