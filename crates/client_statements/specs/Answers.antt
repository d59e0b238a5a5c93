-- What answers a client statement, by the VSchema and by what the session knows of itself. After 'SHOW Statements', 'Information Functions'
-- and 'Using System Variables' of MySQL's reference manual.
use Rattle.std.specs.Prelude.{◌≡◌, ℕ, suc, ◌==◌, ◌&&◌, Bool, true, false, List, [], ◌∷◌, ◌++◌, map, filter, codes, decimal, bytes_eq, position, slice_get, option_map, unwrap_or, Option, Some, None, is_some, IsPermutation, IsSorted, if◌then◌else◌}
use Rattle.std.specs.List.{find, list_all, list_any}
use Rattle.std.specs.Ordering.{nat_cmp}
use Rattle.std.specs.Cmp.Lexicographic.{slice_cmp}
use Rattle.vt_value.specs.declared.refusal.Refusal.{Refusal}
use Rattle.vt_value.specs.declared.refusal.Refusal.TheVariants.{NoKeyspace, UnknownKeyspace, UnknownTable, UnknownVariable}
use Rattle.vt_value.specs.declared.value.Value.{Value}
use Rattle.vt_value.specs.declared.value.Value.TheVariants.{Null, Bytes}
use Rattle.vt_value.specs.Values.{Row}
use Rattle.vschema.specs.Column.{Column}
use Rattle.vschema.specs.ColumnType.{ColumnType}
use Rattle.vschema.specs.ColumnType.TheVariants.{BigInt, BigIntUnsigned, VarBinary}
use Rattle.vschema.specs.declared.schema.Table.{Table}
use Rattle.vschema.specs.declared.schema.VSchema.{VSchema}
use Rattle.client_statements.specs.declared.answers.Facts.{Facts}
use Rattle.client_statements.specs.declared.answers.ClientAnswer.{ClientAnswer}
use Rattle.client_statements.specs.declared.answers.ClientAnswer.TheVariants.{Rows, Refused}
use Rattle.client_statements.specs.declared.statement.NamedValue.{NamedValue}
use Rattle.client_statements.specs.declared.statement.NamedValue.TheVariants as asked
use Rattle.client_statements.specs.declared.statement.ClientStatement.{ClientStatement}
use Rattle.client_statements.specs.declared.statement.ClientStatement.TheVariants.{Set, Begin, NotSupported, Select, Use, ShowDatabases, ShowTables, ShowColumns, ShowVariables, ShowWarnings}
use Rattle.client_statements.specs.declared.statement.SelectItem.{SelectItem}
use Rattle.client_statements.specs.declared.statement.TableName.{TableName}
use Rattle.client_statements.specs.declared.variable.Variable.{Variable}
use Rattle.client_statements.specs.declared.variable.Variable.TheVariants as variable
use Rattle.client_statements.specs.Likes.{is_like}
use Rattle.client_statements.specs.Variables.{variables, variable_name, variable_value, shown_variable}

-- a text, or NULL
abbrev pub cell : Option (List ℕ) → Value
cell None = Null
cell (Some text) = Bytes text

abbrev pub texts : List (Option (List ℕ)) → Row
texts cells = map cell cells

-- each name fits if there is no pattern
abbrev pub fits_pattern : Option (List ℕ) → List ℕ → Bool
fits_pattern None name = true
fits_pattern (Some pattern) name = is_like pattern name

-- a column's name, with the pattern after it, if there is one
abbrev pub headed : List ℕ → Option (List ℕ) → List ℕ
headed head None = head
headed head (Some pattern) = head ++ codes " (" ++ pattern ++ codes ")"

-- ---- keyspaces

abbrev pub keyspace_ordinal : VSchema → List ℕ → Option ℕ
keyspace_ordinal schema name = position (λ k. bytes_eq k.name name) schema.keyspaces

abbrev pub keyspace_name : VSchema → ℕ → Option (List ℕ)
keyspace_name schema ordinal = option_map (λ k. k.name) (slice_get schema.keyspaces ordinal)

-- the keyspace in use, by its name
abbrev pub name_in_use : VSchema → Option ℕ → Option (List ℕ)
name_in_use schema None = None
name_in_use schema (Some ordinal) = keyspace_name schema ordinal

-- ---- SHOW DATABASES and SHOW TABLES

-- a name, and if it is asked for the sort of table that it is
abbrev pub listed_row : Bool → List ℕ → Row
listed_row full name = if full then texts (Some name ∷ Some (codes "BASE TABLE") ∷ []) else texts (Some name ∷ [])

-- a row for each of these names, in the order of their bytes
pub record AreListed (full : Bool) (names : List (List ℕ)) (rows : List Row) : Type 0 where
  pub sorted : List (List ℕ)
  pub same : IsPermutation names sorted
  pub order : IsSorted (slice_cmp nat_cmp) sorted
  pub each : rows ≡ map (listed_row full) sorted

-- the names of the tables of a keyspace
abbrev pub names_in : ℕ → List Table → List (List ℕ)
names_in ordinal tables = map (λ t. t.name) (filter (λ t. t.keyspace == ordinal) tables)

abbrev pub table_heads : VSchema → ℕ → Bool → Option (List ℕ) → List (List ℕ)
table_heads schema ordinal full like =
    headed (codes "Tables_in_" ++ unwrap_or (keyspace_name schema ordinal) []) like ∷ (if full then codes "Table_type" ∷ [] else [])

-- the keyspace that is named, or else the one in use
abbrev pub listed_keyspace : VSchema → Facts → Option (List ℕ) → Option ℕ
listed_keyspace schema facts None = facts.keyspace
listed_keyspace schema facts (Some name) = keyspace_ordinal schema name

-- why tables are not listed if there is none
abbrev pub without_keyspace : Option (List ℕ) → Refusal
without_keyspace None = NoKeyspace
without_keyspace (Some name) = UnknownKeyspace

-- ---- SHOW COLUMNS and DESCRIBE

abbrev pub type_text : ColumnType → List ℕ
type_text BigInt = codes "bigint"
type_text BigIntUnsigned = codes "bigint unsigned"
type_text (VarBinary most) = codes "varbinary(" ++ decimal most ++ codes ")"

abbrev pub null_text : Bool → List ℕ
null_text nullable = if nullable then codes "YES" else codes "NO"

-- whether the column at an ordinal is one of the primary key
abbrev pub key_part_text : Table → ℕ → List ℕ
key_part_text t ordinal = if list_any (λ key. key == ordinal) t.primary_key then codes "PRI" else []

abbrev pub column_heads : Bool → List (List ℕ)
column_heads full =
    if full
    then codes "Field" ∷ codes "Type" ∷ codes "Collation" ∷ codes "Null" ∷ codes "Key" ∷ codes "Default" ∷ codes "Extra" ∷ codes "Privileges" ∷ codes "Comment" ∷ []
    else codes "Field" ∷ codes "Type" ∷ codes "Null" ∷ codes "Key" ∷ codes "Default" ∷ codes "Extra" ∷ []

-- the row of a column: no column has a collation, a default, an extra or a comment
abbrev pub column_texts : Bool → List ℕ → List ℕ → List ℕ → List ℕ → Row
column_texts full name kind null key =
    if full
    then texts (Some name ∷ Some kind ∷ None ∷ Some null ∷ Some key ∷ None ∷ Some [] ∷ Some (codes "select,insert,update") ∷ Some [] ∷ [])
    else texts (Some name ∷ Some kind ∷ Some null ∷ Some key ∷ None ∷ Some [] ∷ [])

-- the column at an ordinal of a table
abbrev pub column_row : Bool → Table → ℕ → Column → Row
column_row full t ordinal c = column_texts full c.name (type_text c.kind) (null_text c.nullable) (key_part_text t ordinal)

-- a row of each column whose name fits, in the table's order, from the column at this ordinal on
abbrev pub column_rows : Bool → Option (List ℕ) → Table → ℕ → List Column → List Row
column_rows full like t ordinal [] = []
column_rows full like t ordinal (c ∷ columns) =
    if fits_pattern like c.name then column_row full t ordinal c ∷ column_rows full like t (suc ordinal) columns
    else column_rows full like t (suc ordinal) columns

abbrev pub is_ordinal : Option ℕ → ℕ → Bool
is_ordinal None ordinal = false
is_ordinal (Some found) ordinal = found == ordinal

-- a keyspace that is named is there
abbrev pub is_keyspace : VSchema → Option (List ℕ) → Bool
is_keyspace schema None = true
is_keyspace schema (Some name) = is_some (keyspace_ordinal schema name)

-- a table lies in the keyspace that is named, if one is
abbrev pub is_of_keyspace : VSchema → Option (List ℕ) → ℕ → Bool
is_of_keyspace schema None ordinal = true
is_of_keyspace schema (Some name) ordinal = is_ordinal (keyspace_ordinal schema name) ordinal

-- the table that is named
abbrev pub is_described : VSchema → TableName → Table → Bool
is_described schema name t = bytes_eq t.name name.table && is_of_keyspace schema name.keyspace t.keyspace

-- ---- SHOW VARIABLES

abbrev pub variable_row : Bool → Variable → Row
variable_row on v = texts (Some (variable_name v) ∷ Some (shown_variable v on) ∷ [])

-- a row of each variable whose name fits
unfoldable pub variable_rows : Bool → Option (List ℕ) → List Variable → List Row
variable_rows on like vs = map (variable_row on) (filter (λ v. fits_pattern like (variable_name v)) vs)

-- ---- SELECT of values

-- the server has what is asked for
abbrev pub is_known_name : NamedValue → Bool
is_known_name (asked.Unknown name) = false
is_known_name _ = true

abbrev pub value_named : VSchema → Facts → NamedValue → Value
value_named schema facts (asked.Variable v) = Bytes (variable_value v facts.autocommit)
value_named schema facts (asked.Unknown name) = Null
value_named schema facts asked.Version = Bytes (variable_value variable.Version facts.autocommit)
value_named schema facts asked.Database = cell (name_in_use schema facts.keyspace)
value_named schema facts asked.ConnectionId = Bytes (decimal facts.connection)
value_named schema facts asked.User = Bytes facts.user

-- ---- answers

-- A statement that has no rows is not answered here.
abbrev pub has_client_answer : ClientStatement → Bool
has_client_answer (Set on) = false
has_client_answer Begin = false
has_client_answer NotSupported = false
has_client_answer (Use name) = false
has_client_answer _ = true

-- What a client statement is answered: the names of columns with rows of texts, or why there are none. Names of keyspaces and tables come in
-- the order of their bytes, columns in the table's order, and variables by name.
pub data IsClientAnswer (schema : VSchema) (facts : Facts) : ClientStatement → ClientAnswer → Type 0 where
  databases : {like : Option (List ℕ)} {rows : List Row} → AreListed false (filter (fits_pattern like) (map (λ k. k.name) schema.keyspaces)) rows
      → IsClientAnswer schema facts (ShowDatabases like) (Rows (headed (codes "Database") like ∷ []) rows)
  tables : {full : Bool} {named like : Option (List ℕ)} {ordinal : ℕ} {rows : List Row} → listed_keyspace schema facts named ≡ Some ordinal
      → AreListed full (filter (fits_pattern like) (names_in ordinal schema.tables)) rows
      → IsClientAnswer schema facts (ShowTables full named like) (Rows (table_heads schema ordinal full like) rows)
  without_tables : {full : Bool} {named like : Option (List ℕ)} → listed_keyspace schema facts named ≡ None
      → IsClientAnswer schema facts (ShowTables full named like) (Refused (without_keyspace named))
  columns : {full : Bool} {name : TableName} {like : Option (List ℕ)} {t : Table} → is_keyspace schema name.keyspace ≡ true
      → find (is_described schema name) schema.tables ≡ Some t
      → IsClientAnswer schema facts (ShowColumns full name like) (Rows (column_heads full) (column_rows full like t 0 t.columns))
  without_table : {full : Bool} {name : TableName} {like : Option (List ℕ)} → is_keyspace schema name.keyspace ≡ true
      → find (is_described schema name) schema.tables ≡ None → IsClientAnswer schema facts (ShowColumns full name like) (Refused UnknownTable)
  elsewhere : {full : Bool} {name : TableName} {like : Option (List ℕ)} → is_keyspace schema name.keyspace ≡ false
      → IsClientAnswer schema facts (ShowColumns full name like) (Refused UnknownKeyspace)
  shown : {like : Option (List ℕ)}
      → IsClientAnswer schema facts (ShowVariables like) (Rows (codes "Variable_name" ∷ codes "Value" ∷ []) (variable_rows facts.autocommit like variables))
  no_warnings : IsClientAnswer schema facts ShowWarnings (Rows (codes "Level" ∷ codes "Code" ∷ codes "Message" ∷ []) [])
  selected : {items : List SelectItem} → list_all (λ i. is_known_name i.asked) items ≡ true
      → IsClientAnswer schema facts (Select items) (Rows (map (λ i. i.name) items) (map (λ i. value_named schema facts i.asked) items ∷ []))
  unknown : {items : List SelectItem} → list_all (λ i. is_known_name i.asked) items ≡ false → IsClientAnswer schema facts (Select items) (Refused UnknownVariable)
