-- What a statement means under a VSchema: the typed statement, or the first refusal that applies, in a fixed order.
use Rattle.std.specs.Prelude.{ℕ, map, slice_get, Option, Some, None, option_map, Result, Ok, Err, if◌then◌else◌}
use Rattle.vt_value.specs.declared.refusal.Refusal.{Refusal}
use Rattle.vt_value.specs.declared.refusal.Refusal.TheVariants.{UnknownTable, UnknownColumn, NotSupported, NotGrouped}
use Rattle.sql_tree.specs.declared.JoinOn.{JoinOn}
use Rattle.sql_tree.specs.declared.Select as S
use Rattle.sql_tree.specs.declared.Statement.{Statement}
use Rattle.sql_tree.specs.declared.Statement.TheVariants.{Select, Insert, Update, Delete, Begin, Commit, Rollback, SetNames}
use Rattle.vschema.specs.declared.schema.Join.{Join}
use Rattle.vschema.specs.declared.schema.Query.{Query}
use Rattle.vschema.specs.declared.schema.Table.{Table}
use Rattle.vschema.specs.declared.schema.VSchema.{VSchema}
use Rattle.vschema.specs.declared.schema.Typed.{Typed}
use Rattle.vschema.specs.declared.schema.Typed.TheVariants as typed
use Rattle.vschema.specs.declared.changes.Write.{Write}
use Rattle.vschema.specs.Schema.{table_ordinal}
use Rattle.vschema.specs.Scopes.{Scope, only, both_of, ordinal_in}
use Rattle.vschema.specs.Resolved.{resolved_condition, resolved_list, qualified_in, resolved_key}
use Rattle.vschema.specs.Joins.{resolved_join, join_is_refused}
use Rattle.vschema.specs.Checks.{names_unknown_column, select_is_not_supported, shows_ungrouped}
use Rattle.vschema.specs.TypedWrites.{typed_insert, typed_update, typed_delete}

abbrev pub join_over : Scope → Option ℕ → Option JoinOn → Option Join
join_over scope None j = None
join_over scope (Some m) None = None
join_over scope (Some m) (Some j) = Some (resolved_join scope m j)

-- the query over its tables, at these ordinals of the VSchema
abbrev pub over : ℕ → Option ℕ → Scope → S.Select → Query
over n m scope s = record {
  table = n;
  join = join_over scope m s.join;
  items = resolved_list scope s.list;
  qualified = qualified_in s.list;
  filter = option_map (resolved_condition scope) s.filter;
  group_by = map (ordinal_in scope) s.group_by;
  order_by = map (resolved_key scope) s.order_by;
  limit = s.limit;
}

-- the columns of its tables, then the kinds that are compared and summed and the join, then groups
abbrev pub checked : ℕ → Option ℕ → Scope → S.Select → Result Query Refusal
checked n m scope s =
    if names_unknown_column scope s then Err UnknownColumn
    else if select_is_not_supported scope s then Err NotSupported
    else if join_is_refused scope (over n m scope s) then Err NotSupported
    else if shows_ungrouped (over n m scope s) then Err NotGrouped
    else Ok (over n m scope s)

abbrev pub checked_pair : S.Select → ℕ → ℕ → Table → Option Table → Result Query Refusal
checked_pair s n m t None = Err UnknownTable
checked_pair s n m t (Some u) = checked n (Some m) (both_of t u) s

-- with the second table at its ordinal
abbrev pub checked_second : VSchema → S.Select → ℕ → Table → Option ℕ → Result Query Refusal
checked_second schema s n t None = Err UnknownTable
checked_second schema s n t (Some m) = checked_pair s n m t (slice_get schema.tables m)

-- with the second table, if one is named
abbrev pub checked_with : VSchema → S.Select → ℕ → Table → Option JoinOn → Result Query Refusal
checked_with schema s n t None = checked n None (only t) s
checked_with schema s n t (Some j) = checked_second schema s n t (table_ordinal schema j.table)

abbrev pub checked_first : VSchema → S.Select → ℕ → Option Table → Result Query Refusal
checked_first schema s n None = Err UnknownTable
checked_first schema s n (Some t) = checked_with schema s n t s.join

abbrev pub checked_at : VSchema → S.Select → Option ℕ → Result Query Refusal
checked_at schema s None = Err UnknownTable
checked_at schema s (Some n) = checked_first schema s n (slice_get schema.tables n)

-- the tables, and then their checks
abbrev pub typed_select : VSchema → S.Select → Result Query Refusal
typed_select schema s = checked_at schema s (table_ordinal schema s.table)

abbrev pub as_query : Result Query Refusal → Result Typed Refusal
as_query (Ok q) = Ok (typed.Select q)
as_query (Err r) = Err r

abbrev pub as_write : Result Write Refusal → Result Typed Refusal
as_write (Ok w) = Ok (typed.Write w)
as_write (Err r) = Err r

abbrev pub typed_statement : VSchema → Statement → Result Typed Refusal
typed_statement schema (Select s) = as_query (typed_select schema s)
typed_statement schema (Insert s) = as_write (typed_insert schema s)
typed_statement schema (Update s) = as_write (typed_update schema s)
typed_statement schema (Delete s) = as_write (typed_delete schema s)
typed_statement schema Begin = Ok typed.Begin
typed_statement schema Commit = Ok typed.Commit
typed_statement schema Rollback = Ok typed.Rollback
typed_statement schema (SetNames c) = Ok typed.SetNames
