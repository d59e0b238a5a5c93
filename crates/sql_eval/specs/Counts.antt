-- Queries that ask for nothing but a number of rows.
use Rattle.std.specs.Prelude.{◌≡◌, ℕ, Bool, true, false, [], None}
use Rattle.std.specs.List.{list_all}
use Rattle.sql_tree.specs.declared.Item.{Item}
use Rattle.sql_tree.specs.declared.Item.TheVariants.{CountRows}
use Rattle.vschema.specs.declared.schema.Query.{Query}
use Rattle.vschema.specs.Checks.{is_aggregated}

abbrev pub is_count_rows : Item ℕ → Bool
is_count_rows CountRows = true
is_count_rows _ = false

-- COUNT(*) of all rows, as often as it is asked
abbrev pub CountsAll : Query → Type 0
CountsAll q = (q.filter ≡ None) × (q.group_by ≡ []) × (is_aggregated q ≡ true) × (list_all is_count_rows q.items ≡ true)
