-- Queries that ask for nothing but the least values of a column, or nothing but the greatest.
use Rattle.std.specs.Prelude.{◌≡◌, ℕ, Bool, true, false, not, ◌&&◌, ◌==◌, []}
use Rattle.std.specs.List.{list_all}
use Rattle.sql_tree.specs.declared.Item.{Item}
use Rattle.sql_tree.specs.declared.Item.TheVariants.{Min, Max}
use Rattle.sql_tree.specs.declared.Key.{Key}
use Rattle.vschema.specs.declared.schema.Query.{Query}
use Rattle.vschema.specs.Checks.{is_aggregated}

-- MIN of the sort key's column, if it ascends, and MAX, if it descends
abbrev pub is_extreme : Key ℕ → Item ℕ → Bool
is_extreme k (Min c) = (c == k.column) && not k.descending
is_extreme k (Max c) = (c == k.column) && k.descending
is_extreme k _ = false

abbrev pub IsExtreme : Key ℕ → Query → Type 0
IsExtreme k q = (q.group_by ≡ []) × (is_aggregated q ≡ true) × (list_all (is_extreme k) q.items ≡ true)
