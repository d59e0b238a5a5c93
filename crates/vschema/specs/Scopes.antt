-- The columns that a statement may name: those of one table, or of the two of a join.
use Rattle.std.specs.Prelude.{ℕ, ◌+◌, Bool, false, List, [], ◌++◌, length, bytes_eq, Option, Some, None, option_map, option_and_then, unwrap_or, if◌then◌else◌}
use Rattle.sql_tree.specs.declared.ColumnName.{ColumnName}
use Rattle.sql_tree.specs.Literals.{Name}
use Rattle.vschema_json.specs.declared.column.Column.{Column}
use Rattle.vschema.specs.declared.schema.Table.{Table}
use Rattle.vschema.specs.Schema.{column_ordinal}

-- the tables after FROM
pub record Scope : Type 0 where
  pub first : Table
  pub second : Option Table

abbrev pub only : Table → Scope
only t = record { first = t; second = None }

abbrev pub both_of : Table → Table → Scope
both_of t u = record { first = t; second = Some u }

abbrev pub table_columns : Option Table → List Column
table_columns None = []
table_columns (Some t) = t.columns

-- the columns of the first, and after them those of the second
abbrev pub scope_columns : Scope → List Column
scope_columns s = s.first.columns ++ table_columns s.second

-- the ordinal of a column of the second table among these
abbrev pub second_ordinal : Scope → Name → Option ℕ
second_ordinal s name = option_map (λ n. length s.first.columns + n) (option_and_then (λ t. column_ordinal t name) s.second)

-- the one of two ordinals that is there, if just one is
abbrev pub just_one : Option ℕ → Option ℕ → Option ℕ
just_one None m = m
just_one (Some n) None = Some n
just_one (Some n) (Some m) = None

abbrev pub is_named : Name → Option Table → Bool
is_named name None = false
is_named name (Some t) = bytes_eq t.name name

-- A bare name is a column of just one of the tables; a qualified one is a column of the table of that name. A table joined with itself is the
-- first of the two.
abbrev pub named_ordinal : Scope → Option Name → Name → Option ℕ
named_ordinal s None name = just_one (column_ordinal s.first name) (second_ordinal s name)
named_ordinal s (Some table) name =
    if bytes_eq s.first.name table then column_ordinal s.first name
    else if is_named table s.second then second_ordinal s name else None

abbrev pub scope_ordinal : Scope → ColumnName → Option ℕ
scope_ordinal s c = named_ordinal s c.table c.name

-- the ordinal of a column; that it is there is a check of its own
abbrev pub ordinal_in : Scope → ColumnName → ℕ
ordinal_in s c = unwrap_or (scope_ordinal s c) 0
