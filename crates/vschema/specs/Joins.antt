-- Which joins are taken: those that each shard can make by itself.
use Rattle.std.specs.Prelude.{ℕ, ◌+◌, Bool, true, false, not, ◌||◌, ◌&&◌, ◌==◌, nat_lt, nat_le, length, slice_get, Option, Some, None, if◌then◌else◌}
use Rattle.vschema_json.specs.OneVindex.{is_one_vindex}
use Rattle.sql_tree.specs.declared.JoinOn.{JoinOn}
use Rattle.vschema.specs.declared.schema.ColumnVindex.{ColumnVindex}
use Rattle.vschema.specs.declared.schema.Join.{Join}
use Rattle.vschema.specs.declared.schema.Query.{Query}
use Rattle.vschema.specs.declared.schema.Table.{Table}
use Rattle.vschema.specs.Scopes.{Scope, scope_columns, ordinal_in}
use Rattle.vschema.specs.Checks.{differ, column_is_text, is_aggregated}
use Rattle.vschema.specs.Sources.{kind_of}

-- Both tables have the same vindex of their keyspace, on these columns; or neither has one, and the columns are both of numbers or both of texts.
abbrev pub takes_keys : Scope → ℕ → ℕ → Option ColumnVindex → Option ColumnVindex → Bool
takes_keys s a b None None = not (differ (column_is_text s a) (column_is_text s b))
takes_keys s a b None (Some w) = false
takes_keys s a b (Some v) None = false
takes_keys s a b (Some v) (Some w) =
    is_one_vindex v.number v.vindex w.number w.vindex && (v.column == a) && (length s.first.columns + w.column == b)

-- the columns are one of each table, both of one keyspace
abbrev pub takes_columns : Scope → Table → ℕ → ℕ → Bool
takes_columns s t a b =
    nat_lt a (length s.first.columns) && nat_le (length s.first.columns) b && (s.first.keyspace == t.keyspace)
    && takes_keys s a b s.first.vindex t.vindex

-- ON has its columns in either order: the one of the first table, and the other
abbrev pub left_ordinal : Scope → JoinOn → ℕ
left_ordinal s j = if nat_lt (ordinal_in s j.left) (length s.first.columns) then ordinal_in s j.left else ordinal_in s j.right

abbrev pub right_ordinal : Scope → JoinOn → ℕ
right_ordinal s j = if nat_lt (ordinal_in s j.left) (length s.first.columns) then ordinal_in s j.right else ordinal_in s j.left

-- the join with the table at this ordinal of the VSchema
abbrev pub resolved_join : Scope → ℕ → JoinOn → Join
resolved_join s m j = record {
  table = m;
  width = length s.first.columns;
  first = left_ordinal s j;
  second = right_ordinal s j;
  kind = kind_of (slice_get (scope_columns s) (right_ordinal s j));
}

-- a table with itself, an aggregated query, or columns that aren't taken
abbrev pub is_refused : Scope → Option Table → Query → Option Join → Bool
is_refused s second q None = false
is_refused s None q (Some j) = true
is_refused s (Some t) q (Some j) = (q.table == j.table) || is_aggregated q || not (takes_columns s t j.first j.second)

abbrev pub join_is_refused : Scope → Query → Bool
join_is_refused s q = is_refused s s.second q q.join
