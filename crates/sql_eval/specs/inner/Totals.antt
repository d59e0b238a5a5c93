-- What aggregates give of all rows as one group.
use Rattle.std.specs.Prelude.{ℕ, List, map}
use Rattle.vt_value.specs.declared.value.Value.{Value}
use Rattle.vt_value.specs.Values.{Row}
use Rattle.sql_tree.specs.declared.Item.{Item}
use Rattle.aggregate.specs.Groups.{joined_part}
use Rattle.sql_eval.specs.inner.Parts.{row_part}

-- the parts of the rows, joined
abbrev pub total_of : List Row → Item ℕ → Value
total_of rows a = joined_part a (map (λ row. row_part row a) rows)

abbrev pub totals_of : List (Item ℕ) → List Row → Row
totals_of aggregates rows = map (total_of rows) aggregates
