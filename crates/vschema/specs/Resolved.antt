-- Conditions and select lists with columns by their ordinals in the table, or in the pairs of a join.
use Rattle.std.specs.Prelude.{ℕ, ◌+◌, Bool, false, List, [], ◌∷◌, map, is_some, unwrap_or}
use Rattle.sql_tree.specs.declared.ColumnName.{ColumnName}
use Rattle.sql_tree.specs.declared.Operand.{Operand}
use Rattle.sql_tree.specs.declared.Operand.TheVariants.{Column, Literal}
use Rattle.sql_tree.specs.declared.Condition as N
use Rattle.sql_tree.specs.declared.Condition.{Condition, Condition-F, fold-Condition}
use Rattle.sql_tree.specs.declared.Condition.TheOpen.{Compare, In, IsNull, Not, And, Or}
use Rattle.sql_tree.specs.declared.SelectList.{SelectList}
use Rattle.sql_tree.specs.declared.SelectList.TheVariants.{All, Items}
use Rattle.sql_tree.specs.declared.Item.{Item}
use Rattle.sql_tree.specs.declared.Item.TheVariants as item
use Rattle.sql_tree.specs.declared.Key.{Key}
pub use Rattle.sql_tree.specs.Literals.{Name}
use Rattle.vschema.specs.declared.schema.Table.{Table}
use Rattle.vschema.specs.Schema.{column_ordinal}
use Rattle.vschema.specs.Scopes.{Scope, scope_columns, ordinal_in}

-- the ordinal of a column; that it is there is a check of its own
abbrev pub ordinal : Table → Name → ℕ
ordinal t name = unwrap_or (column_ordinal t name) 0

abbrev pub ordinals_from : {X : Type 0} → ℕ → List X → List ℕ
ordinals_from n [] = []
ordinals_from n (x ∷ xs) = n ∷ ordinals_from (n + 1) xs

abbrev pub resolved_operand : Scope → Operand ColumnName → Operand ℕ
resolved_operand s (Column name) = Column (ordinal_in s name)
resolved_operand s (Literal v) = Literal v

abbrev pub resolved_node : Scope → Condition-F ColumnName (Condition ℕ) → Condition ℕ
resolved_node s (Compare op a b) = N.Compare op (resolved_operand s a) (resolved_operand s b)
resolved_node s (In a members) = N.In (resolved_operand s a) members
resolved_node s (IsNull a) = N.IsNull (resolved_operand s a)
resolved_node s (Not c) = N.Not c
resolved_node s (And cs) = N.And cs
resolved_node s (Or cs) = N.Or cs

abbrev pub resolved_condition : Scope → Condition ColumnName → Condition ℕ
resolved_condition s c = fold-Condition ColumnName (Condition ℕ) (resolved_node s) c

abbrev pub resolved_item : Scope → Item ColumnName → Item ℕ
resolved_item s (item.Column name) = item.Column (ordinal_in s name)
resolved_item s item.CountRows = item.CountRows
resolved_item s (item.Count name) = item.Count (ordinal_in s name)
resolved_item s (item.Sum name) = item.Sum (ordinal_in s name)
resolved_item s (item.Min name) = item.Min (ordinal_in s name)
resolved_item s (item.Max name) = item.Max (ordinal_in s name)

-- `*` is all columns in their order
abbrev pub resolved_list : Scope → SelectList → List (Item ℕ)
resolved_list s All = map item.Column (ordinals_from 0 (scope_columns s))
resolved_list s (Items items) = map (resolved_item s) items

-- an item is written with its table's name
abbrev pub is_qualified : Item ColumnName → Bool
is_qualified (item.Column name) = is_some name.table
is_qualified item.CountRows = false
is_qualified (item.Count name) = is_some name.table
is_qualified (item.Sum name) = is_some name.table
is_qualified (item.Min name) = is_some name.table
is_qualified (item.Max name) = is_some name.table

abbrev pub qualified_in : SelectList → List Bool
qualified_in All = []
qualified_in (Items items) = map is_qualified items

abbrev pub resolved_key : Scope → Key ColumnName → Key ℕ
resolved_key s k = record { column = ordinal_in s k.column; descending = k.descending }
