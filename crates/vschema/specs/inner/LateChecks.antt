-- The last checks of a query, by the parts of it that they ask for.
use Rattle.std.specs.Prelude.{ℕ, Bool, true, false, not, ◌||◌, ◌==◌, List, Option, Some, None}
use Rattle.std.specs.List.{list_any}
use Rattle.sql_tree.specs.declared.Item.{Item}
use Rattle.sql_tree.specs.declared.Key.{Key}
use Rattle.vschema.specs.declared.schema.Join.{Join}
use Rattle.vschema.specs.declared.schema.Table.{Table}
use Rattle.vschema.specs.Scopes.{Scope}
use Rattle.vschema.specs.Checks.{has_number, is_ungrouped}
use Rattle.vschema.specs.Joins.{takes_columns}

-- a plain column is shown, or ordered by, that isn't in GROUP BY
abbrev pub shows_others : List (Item ℕ) → List ℕ → List (Key ℕ) → Bool
shows_others items group_by order_by =
    list_any (is_ungrouped group_by) items || list_any (λ k. not (has_number group_by k.column)) order_by

abbrev pub refuses_any : Scope → Option Table → ℕ → Bool → Option Join → Bool
refuses_any s second n aggregated None = false
refuses_any s None n aggregated (Some j) = true
refuses_any s (Some t) n aggregated (Some j) = (n == j.table) || aggregated || not (takes_columns s t j.first j.second)

-- the join of the table at an ordinal isn't taken
abbrev pub refuses_join : Scope → ℕ → Bool → Option Join → Bool
refuses_join s n aggregated j = refuses_any s s.second n aggregated j
