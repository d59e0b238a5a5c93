-- What a query may answer over a database.
use Rattle.std.specs.Prelude.{◌≡◌, ℕ, List, map, filter, IsPermutation, IsSorted, if◌then◌else◌}
use Rattle.vt_value.specs.declared.value.Value.{Value}
use Rattle.vt_value.specs.declared.value.Value.TheVariants.{Null}
use Rattle.vt_value.specs.Values.{Row, value_at}
use Rattle.sql_tree.specs.declared.Item.{Item}
use Rattle.sql_tree.specs.declared.Item.TheVariants.{Column}
use Rattle.aggregate.specs.Orders.{keys_cmp, sort_values}
use Rattle.aggregate.specs.Slices.{sliced}
use Rattle.vschema.specs.declared.schema.Query.{Query}
use Rattle.vschema.specs.Checks.{is_aggregated}
use Rattle.vschema.specs.Database.{Database}
use Rattle.vschema.specs.Sources.{source_rows}
use Rattle.sql_eval.specs.Conditions.{is_kept}
use Rattle.sql_eval.specs.Groups.{group_values, group_rows, group_value, item_value}

-- a row of the answer with its sort keys, a value for each key of ORDER BY
abbrev pub Keyed : Type 0
Keyed = Row × List Value

-- what an item shows of one row
abbrev pub shown_value : Row → Item ℕ → Value
shown_value row (Column n) = value_at row n
shown_value row _ = Null

-- what a query shows of a row
abbrev pub shown : Query → Row → Row
shown q row = map (shown_value row) q.items

abbrev pub keyed_row : Query → Row → Keyed
keyed_row q row = (shown q row, sort_values q.order_by row)

-- what a query shows of the group with these values
abbrev pub keyed_group : Query → List Row → Row → Keyed
keyed_group q rows values = (
  map (item_value q.group_by values (group_rows q.group_by values rows)) q.items,
  map (λ k. group_value q.group_by values k.column) q.order_by,
)

-- one row for each group
abbrev pub keyed_groups : Query → List Row → List Keyed
keyed_groups q rows = map (keyed_group q rows) (group_values q.group_by rows)

-- The bag of the whole answer: the rows whose condition is true, as they are shown, or their groups if the query is aggregated, each
-- with its sort keys.
abbrev pub kept_rows : Query → List Row → List Keyed
kept_rows q rows =
    if is_aggregated q then keyed_groups q (filter (is_kept q.filter) rows) else map (keyed_row q) (filter (is_kept q.filter) rows)

-- The list is an answer of the query over these rows: some arrangement of the whole answer is sorted by its keys, and the
-- list is its slice.
abbrev pub IsAnswer : Query → List Row → List Row → Type 0
IsAnswer q rows list =
    (arranged : List Keyed) × IsPermutation (kept_rows q rows) arranged
    × IsSorted (λ a b. keys_cmp q.order_by a.1 b.1) arranged × (list ≡ map (λ r. r.0) (sliced q.limit arranged))

-- the same over a database: over the rows of the query's table, or over the pairs of a join
abbrev pub Allowed : Query → Database → List Row → Type 0
Allowed q db list = IsAnswer q (source_rows q db) list
