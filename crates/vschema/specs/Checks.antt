-- The checks of a statement against the tables that it names, each of the whole statement.
use Rattle.std.specs.Prelude.{ℕ, Bool, true, false, not, ◌||◌, ◌&&◌, List, [], ◌∷◌, slice_get, Option, Some, None, option_map, is_none}
use Rattle.std.specs.List.{list_any}
use Rattle.vt_value.specs.declared.value.Value.{Value}
use Rattle.vt_value.specs.declared.value.Value.TheVariants.{Null, Int, Bytes}
use Rattle.sql_tree.specs.declared.ColumnName.{ColumnName}
use Rattle.sql_tree.specs.declared.JoinOn.{JoinOn}
use Rattle.sql_tree.specs.declared.Operand.{Operand}
use Rattle.sql_tree.specs.declared.Operand.TheVariants as operand
use Rattle.sql_tree.specs.declared.Condition.{Condition, Condition-F, fold-Condition}
use Rattle.sql_tree.specs.declared.Condition.TheOpen.{Compare, In, IsNull, Not, And, Or}
use Rattle.sql_tree.specs.declared.Select.{Select}
use Rattle.sql_tree.specs.declared.SelectList.{SelectList}
use Rattle.sql_tree.specs.declared.SelectList.TheVariants.{All, Items}
use Rattle.sql_tree.specs.declared.Item.{Item}
use Rattle.sql_tree.specs.declared.Item.TheVariants as item
use Rattle.vschema_json.specs.declared.column.ColumnType.{ColumnType}
use Rattle.vschema_json.specs.declared.column.ColumnType.TheVariants.{BigInt, BigIntUnsigned, VarBinary}
use Rattle.vschema.specs.declared.schema.Table.{Table}
use Rattle.vschema.specs.declared.schema.Query.{Query}
use Rattle.vschema.specs.Schema.{column_ordinal}
use Rattle.vschema.specs.Resolved.{Name}
use Rattle.vschema.specs.Scopes.{Scope, scope_columns, scope_ordinal, ordinal_in}
pub use Rattle.vschema_json.specs.Twice.{has_number}

-- a name that is no column of the table
abbrev pub is_unknown : Table → Name → Bool
is_unknown t name = is_none (column_ordinal t name)

-- a name that is no column after FROM, or a column of both tables
abbrev pub is_unnamed : Scope → ColumnName → Bool
is_unnamed s c = is_none (scope_ordinal s c)

abbrev pub operand_is_unknown : Scope → Operand ColumnName → Bool
operand_is_unknown s (operand.Column name) = is_unnamed s name
operand_is_unknown s (operand.Literal v) = false

abbrev pub node_names_unknown : Scope → Condition-F ColumnName Bool → Bool
node_names_unknown s (Compare op a b) = operand_is_unknown s a || operand_is_unknown s b
node_names_unknown s (In a members) = operand_is_unknown s a
node_names_unknown s (IsNull a) = operand_is_unknown s a
node_names_unknown s (Not b) = b
node_names_unknown s (And bs) = list_any (λ b. b) bs
node_names_unknown s (Or bs) = list_any (λ b. b) bs

abbrev pub condition_names_unknown : Scope → Condition ColumnName → Bool
condition_names_unknown s c = fold-Condition ColumnName Bool (node_names_unknown s) c

abbrev pub item_names_unknown : Scope → Item ColumnName → Bool
item_names_unknown s (item.Column name) = is_unnamed s name
item_names_unknown s item.CountRows = false
item_names_unknown s (item.Count name) = is_unnamed s name
item_names_unknown s (item.Sum name) = is_unnamed s name
item_names_unknown s (item.Min name) = is_unnamed s name
item_names_unknown s (item.Max name) = is_unnamed s name

abbrev pub list_names_unknown : Scope → SelectList → Bool
list_names_unknown s All = false
list_names_unknown s (Items items) = list_any (item_names_unknown s) items

abbrev pub filter_has : (Condition ColumnName → Bool) → Option (Condition ColumnName) → Bool
filter_has test None = false
filter_has test (Some c) = test c

-- ON names a column that isn't there
abbrev pub join_names_unknown : Scope → Option JoinOn → Bool
join_names_unknown s None = false
join_names_unknown s (Some j) = is_unnamed s j.left || is_unnamed s j.right

-- the statement names a column that its tables don't have, or a bare one that both have
abbrev pub names_unknown_column : Scope → Select → Bool
names_unknown_column s q =
    list_names_unknown s q.list || join_names_unknown s q.join || filter_has (condition_names_unknown s) q.filter || list_any (is_unnamed s) q.group_by
    || list_any (λ k. is_unnamed s k.column) q.order_by

-- whether it is a text, if it is a number or a text
abbrev pub is_text_type : ColumnType → Bool
is_text_type BigInt = false
is_text_type BigIntUnsigned = false
is_text_type (VarBinary n) = true

abbrev pub value_is_text : Value → Option Bool
value_is_text Null = None
value_is_text (Int n) = Some false
value_is_text (Bytes t) = Some true

abbrev pub column_is_text : Scope → ℕ → Option Bool
column_is_text s n = option_map (λ c. is_text_type c.kind) (slice_get (scope_columns s) n)

abbrev pub operand_is_text : Scope → Operand ColumnName → Option Bool
operand_is_text s (operand.Column name) = column_is_text s (ordinal_in s name)
operand_is_text s (operand.Literal v) = value_is_text v

-- one is a number and the other a text
abbrev pub differ : Option Bool → Option Bool → Bool
differ (Some true) (Some false) = true
differ (Some false) (Some true) = true
differ _ _ = false

abbrev pub node_mixes : Scope → Condition-F ColumnName Bool → Bool
node_mixes s (Compare op a b) = differ (operand_is_text s a) (operand_is_text s b)
node_mixes s (In a members) = list_any (λ m. differ (operand_is_text s a) (value_is_text m)) members
node_mixes s (IsNull a) = false
node_mixes s (Not b) = b
node_mixes s (And bs) = list_any (λ b. b) bs
node_mixes s (Or bs) = list_any (λ b. b) bs

-- a comparison has a number on one side and a text on the other
abbrev pub condition_mixes : Scope → Condition ColumnName → Bool
condition_mixes s c = fold-Condition ColumnName Bool (node_mixes s) c

abbrev pub mixes_kinds : Scope → Select → Bool
mixes_kinds s q = filter_has (condition_mixes s) q.filter

-- SUM of a column of texts
abbrev pub is_text_sum : Scope → Item ColumnName → Bool
is_text_sum s (item.Sum name) = differ (column_is_text s (ordinal_in s name)) (Some false)
is_text_sum s _ = false

abbrev pub sums_text : Scope → SelectList → Bool
sums_text s All = false
sums_text s (Items items) = list_any (is_text_sum s) items

-- a comparison mixes kinds, or a text is summed
abbrev pub select_is_not_supported : Scope → Select → Bool
select_is_not_supported s q = mixes_kinds s q || sums_text s q.list

abbrev pub is_aggregate : Item ℕ → Bool
is_aggregate (item.Column n) = false
is_aggregate _ = true

-- a query is aggregated if it shows an aggregate or has a GROUP BY
abbrev pub is_aggregated : Query → Bool
is_aggregated q = list_any is_aggregate q.items || not (is_nil q.group_by)
  where
    is_nil : List ℕ → Bool
    is_nil [] = true
    is_nil (n ∷ ns) = false

abbrev pub is_ungrouped : List ℕ → Item ℕ → Bool
is_ungrouped group_by (item.Column n) = not (has_number group_by n)
is_ungrouped group_by _ = false

-- an aggregated query shows a plain column, or orders by one, that isn't in GROUP BY
abbrev pub shows_ungrouped : Query → Bool
shows_ungrouped q =
    is_aggregated q
    && (list_any (is_ungrouped q.group_by) q.items || list_any (λ k. not (has_number q.group_by k.column)) q.order_by)
