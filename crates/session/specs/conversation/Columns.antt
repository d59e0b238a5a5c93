-- How the columns of a query's result are defined.
use Rattle.std.specs.Prelude.{◌≡◌, ℕ, ◌+◌, ◌-◌, Bool, true, false, ◌==◌, nat_lt, List, [], ◌∷◌, Option, Some, None, slice_index_or, if◌then◌else◌}
use Rattle.std.specs.List.{list_any}
use Rattle.sql_tree.specs.declared.ColumnName.{ColumnName}
use Rattle.sql_tree.specs.declared.Item.{Item}
use Rattle.sql_tree.specs.declared.Item.TheVariants as item
use Rattle.sql_tree.specs.Printing.{item_text}
use Rattle.vschema.specs.ColumnType.{ColumnType}
use Rattle.vschema.specs.ColumnType.TheVariants as type
use Rattle.vschema.specs.declared.schema.Join.{Join}
use Rattle.vschema.specs.declared.schema.Keyspace.{Keyspace}
use Rattle.vschema.specs.declared.schema.Table.{Table}
use Rattle.vschema.specs.declared.schema.VSchema.{VSchema}
use Rattle.vschema.specs.Column as C
use Rattle.vschema.specs.Schema.{no_table}
use Rattle.resultset.specs.declared.Kind.{Kind}
use Rattle.resultset.specs.declared.Kind.TheVariants.{BigInt, BigIntUnsigned, VarBinary, Count, Sum}
use Rattle.resultset.specs.declared.Column as R

abbrev pub shown_kind : ColumnType → Kind
shown_kind type.BigInt = BigInt
shown_kind type.BigIntUnsigned = BigIntUnsigned
shown_kind (type.VarBinary most) = VarBinary most

-- BINARY_FLAG, and UNSIGNED_FLAG
abbrev pub base_flags : ColumnType → ℕ
base_flags type.BigInt = 128
base_flags type.BigIntUnsigned = 128 + 32
base_flags (type.VarBinary most) = 128

-- a primary key column has PRI_KEY_FLAG and, as it is NOT NULL, NOT_NULL_FLAG
abbrev pub flags_of : Table → ℕ → C.Column → ℕ
flags_of t ordinal c =
    if list_any (λ key. key == ordinal) t.primary_key then base_flags c.kind + 3
    else if c.nullable then base_flags c.kind
    else base_flags c.kind + 1

abbrev pub no_keyspace : Keyspace
no_keyspace = record { name = []; sharded = false }

abbrev pub no_column : C.Column
no_column = record { name = []; kind = type.BigInt; nullable = true }

-- the definition of the column at an ordinal of a table
pub record Defines (schema : VSchema) (t : Table) (ordinal : ℕ) (column : C.Column) (defined : R.Column) : Type 0 where
  pub schema_name : defined.schema ≡ (slice_index_or schema.keyspaces t.keyspace no_keyspace).name
  pub table_name : defined.table ≡ t.name
  pub name : defined.name ≡ column.name
  pub org_name : defined.org_name ≡ column.name
  pub kind : defined.kind ≡ shown_kind column.kind
  pub flags : defined.flags ≡ flags_of t ordinal column

abbrev pub column_at : Table → ℕ → C.Column
column_at t ordinal = slice_index_or t.columns ordinal no_column

abbrev pub DefinesAt : VSchema → Table → ℕ → R.Column → Type 0
DefinesAt schema t ordinal defined = Defines schema t ordinal (column_at t ordinal) defined

-- the name of a column, with its table's if it was written so
abbrev pub name_at : Table → Bool → ℕ → ColumnName
name_at t qualified n = record { table = if qualified then Some t.name else None; name = (column_at t n).name }

-- an item with the names of its columns
abbrev pub named_item : Table → Bool → Item ℕ → Item ColumnName
named_item t qualified (item.Column n) = item.Column (name_at t qualified n)
named_item t qualified item.CountRows = item.CountRows
named_item t qualified (item.Count n) = item.Count (name_at t qualified n)
named_item t qualified (item.Sum n) = item.Sum (name_at t qualified n)
named_item t qualified (item.Min n) = item.Min (name_at t qualified n)
named_item t qualified (item.Max n) = item.Max (name_at t qualified n)

-- a count is counted, a sum is summed, and the least and the greatest are of their column's type
abbrev pub item_kind : Table → Item ℕ → Kind
item_kind t (item.Column n) = shown_kind (column_at t n).kind
item_kind t item.CountRows = Count
item_kind t (item.Count n) = Count
item_kind t (item.Sum n) = Sum
item_kind t (item.Min n) = shown_kind (column_at t n).kind
item_kind t (item.Max n) = shown_kind (column_at t n).kind

-- a count is never NULL
abbrev pub item_flags : Table → Item ℕ → ℕ
item_flags t (item.Column n) = base_flags (column_at t n).kind
item_flags t item.CountRows = 128 + 1
item_flags t (item.Count n) = 128 + 1
item_flags t (item.Sum n) = 128
item_flags t (item.Min n) = base_flags (column_at t n).kind
item_flags t (item.Max n) = base_flags (column_at t n).kind

-- the definition of an aggregate: no keyspace or table has it, and it is named as it is printed
pub record DefinesAggregate (t : Table) (qualified : Bool) (shown : Item ℕ) (defined : R.Column) : Type 0 where
  pub schema_name : defined.schema ≡ []
  pub table_name : defined.table ≡ []
  pub name : defined.name ≡ item_text (named_item t qualified shown)
  pub org_name : defined.org_name ≡ []
  pub kind : defined.kind ≡ item_kind t shown
  pub flags : defined.flags ≡ item_flags t shown

-- the table that has the column at an ordinal of a query's rows, and its ordinal there: of a pair, the first table's columns come first
abbrev pub owner_of : VSchema → Table → Option Join → ℕ → Table × ℕ
owner_of schema t None n = (t, n)
owner_of schema t (Some j) n = if nat_lt n j.width then (t, n) else (slice_index_or schema.tables j.table no_table, n - j.width)

-- a column is its table's; an aggregate is over one table
abbrev pub DefinesItem : VSchema → Table → Option Join → Bool → Item ℕ → R.Column → Type 0
DefinesItem schema t join qualified (item.Column n) defined = DefinesAt schema (owner_of schema t join n).0 (owner_of schema t join n).1 defined
DefinesItem schema t join qualified item.CountRows defined = DefinesAggregate t qualified item.CountRows defined
DefinesItem schema t join qualified (item.Count n) defined = DefinesAggregate t qualified (item.Count n) defined
DefinesItem schema t join qualified (item.Sum n) defined = DefinesAggregate t qualified (item.Sum n) defined
DefinesItem schema t join qualified (item.Min n) defined = DefinesAggregate t qualified (item.Min n) defined
DefinesItem schema t join qualified (item.Max n) defined = DefinesAggregate t qualified (item.Max n) defined

-- a definition for each item, in order, from the item of this number on
abbrev pub AllDefined : VSchema → Table → Option Join → List Bool → ℕ → List (Item ℕ) → List R.Column → Type 0
AllDefined schema t join qualified n [] [] = Unit {0}
AllDefined schema t join qualified n [] (d ∷ defined) = ⊥
AllDefined schema t join qualified n (i ∷ items) [] = ⊥
AllDefined schema t join qualified n (i ∷ items) (d ∷ defined) =
    DefinesItem schema t join (slice_index_or qualified n false) i d × AllDefined schema t join qualified (n + 1) items defined

-- the definitions of the columns that a query over the table at this ordinal, or over its pairs with another, shows
abbrev pub AreColumns : VSchema → ℕ → Option Join → List (Item ℕ) → List Bool → List R.Column → Type 0
AreColumns schema table join items qualified defined =
    AllDefined schema (slice_index_or schema.tables table no_table) join qualified 0 items defined
