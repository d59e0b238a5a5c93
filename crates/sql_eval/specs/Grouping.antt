-- How the groups of a query are computed: each row is a part of its group, and parts are joined.
use Rattle.std.specs.Prelude.{◌≡◌, ℕ, ◌+◌, ◌==◌, List, [], ◌∷◌, length, map, filter, IsPermutation, IsSorted, Option, if◌then◌else◌}
use Rattle.vt_value.specs.Values.{Row}
use Rattle.sql_tree.specs.declared.Item.{Item}
use Rattle.sql_tree.specs.declared.Item.TheVariants.{Column}
use Rattle.sql_tree.specs.declared.Key.{Key}
use Rattle.sql_tree.specs.declared.LimitClause.{LimitClause}
use Rattle.aggregate.specs.Orders.{row_cmp}
use Rattle.aggregate.specs.Slices.{sliced, columns_of}
use Rattle.aggregate.specs.Groups.{joined_rows}
use Rattle.vschema.specs.declared.schema.Query.{Query}
use Rattle.vschema.specs.Checks.{is_aggregate}
use Rattle.sql_eval.specs.declared.groups.Grouping.{Grouping}

-- the column that an item shows, 0 if it shows an aggregate
abbrev pub shown_ordinal : Item ℕ → ℕ
shown_ordinal (Column n) = n
shown_ordinal _ = 0

abbrev pub aggregates_of : List (Item ℕ) → List (Item ℕ)
aggregates_of items = filter is_aggregate items

-- the ordinal of a column among those of GROUP BY, counted from a number on, and another number if it isn't there
abbrev pub group_ordinal_from : ℕ → ℕ → List ℕ → ℕ → ℕ
group_ordinal_from n other [] c = other
group_ordinal_from n other (g ∷ columns) c = if g == c then n else group_ordinal_from (n + 1) other columns c

-- the ordinals of a query's items in the rows of groups, if the aggregates stand from an ordinal on
abbrev pub item_ordinals : ℕ → List ℕ → ℕ → List (Item ℕ) → List ℕ
item_ordinals other columns n [] = []
item_ordinals other columns n (i ∷ items) =
    if is_aggregate i then n ∷ item_ordinals other columns (n + 1) items
    else group_ordinal_from 0 other columns (shown_ordinal i) ∷ item_ordinals other columns n items

abbrev pub placed_key : ℕ → List ℕ → Key ℕ → Key ℕ
placed_key other columns k = record { column = group_ordinal_from 0 other columns k.column; descending = k.descending }

-- an ordinal after the last value of a group's row
abbrev pub after_groups : Query → ℕ
after_groups q = length q.group_by + length q.items

abbrev pub grouping_of : Query → Grouping
grouping_of q = record { width = length q.group_by; aggregates = aggregates_of q.items; hashing = tt }

-- the ordinals of the query's items in a group's row
abbrev pub group_columns : Query → List ℕ
group_columns q = item_ordinals (after_groups q) q.group_by (length q.group_by) q.items

-- the sort keys, by the ordinals of their columns in a group's row
abbrev pub group_order : Query → List (Key ℕ)
group_order q = map (placed_key (after_groups q) q.group_by) q.order_by

-- the rows of the groups that these parts make up
abbrev pub grouped : Grouping → List Row → List Row
grouped g parts = joined_rows g.aggregates g.width parts

-- what is shown of rows: their slice in an order that the keys allow, by the columns at these ordinals
abbrev pub IsSortedSlice : List (Key ℕ) → Option LimitClause → List ℕ → List Row → List Row → Type 0
IsSortedSlice keys limit ordinals rows list =
    (arranged : List Row) × IsPermutation rows arranged × IsSorted (row_cmp keys) arranged
    × (list ≡ map (columns_of ordinals) (sliced limit arranged))
