-- What every VSchema keeps: names that differ, keys that may decide a shard, and the limits.
use Rattle.std.specs.Prelude.{ℕ, Bool, false, not, ◌&&◌, nat_le, List, length, map, filter, slice_get, option_map, Option, Some, None}
use Rattle.std.specs.List.{list_all}
use Rattle.sql_tree.specs.Lexemes.{is_word}
use Rattle.vschema_json.specs.declared.column.Column.{Column}
use Rattle.vschema.specs.declared.schema.ColumnVindex.{ColumnVindex}
use Rattle.vschema.specs.declared.schema.Keyspace.{Keyspace}
use Rattle.vschema.specs.declared.schema.Table.{Table}
use Rattle.vschema_json.specs.Twice.{has_number, has_number_twice, has_twice}
pub use Rattle.vschema_json.specs.ColumnTypes.{is_type, takes_type}

-- a column of the table that is NOT NULL
abbrev pub is_needed : Table → ℕ → Bool
is_needed t n = holds (slice_get t.columns n)
  where
    holds : Option Column → Bool
    holds None = false
    holds (Some c) = not c.nullable

abbrev pub fits_vindex : ColumnVindex → Option Column → Bool
fits_vindex v None = false
fits_vindex v (Some c) = takes_type v.vindex c.kind

-- The vindex column is NOT NULL, of the vindex's type, and in the primary key. A table has one exactly when its
-- keyspace is sharded.
abbrev pub is_vindex_right : Table → Bool → Option ColumnVindex → Bool
is_vindex_right t sharded None = not sharded
is_vindex_right t sharded (Some v) =
    sharded && fits_vindex v (slice_get t.columns v.column) && is_needed t v.column && has_number t.primary_key v.column

abbrev pub is_sharded_at : List Keyspace → ℕ → Option Bool
is_sharded_at keyspaces n = option_map (λ k. k.sharded) (slice_get keyspaces n)

abbrev pub is_in_keyspace : Table → Option Bool → Bool
is_in_keyspace t None = false
is_in_keyspace t (Some sharded) = is_vindex_right t sharded t.vindex

abbrev pub is_table : List Keyspace → Table → Bool
is_table keyspaces t =
    is_word t.name && nat_le 1 (length t.columns) && nat_le (length t.columns) 64
    && not (has_twice (map (λ c. c.name) t.columns)) && list_all (λ c. is_word c.name && is_type c.kind) t.columns
    && nat_le 1 (length t.primary_key) && not (has_number_twice t.primary_key) && list_all (is_needed t) t.primary_key
    && is_in_keyspace t (is_sharded_at keyspaces t.keyspace)

-- at least one keyspace, and at most one of each sort; table names told apart over both
abbrev pub is_formed : List Keyspace → List Table → Bool
is_formed keyspaces tables =
    nat_le 1 (length keyspaces) && nat_le (length (filter (λ k. k.sharded) keyspaces)) 1
    && nat_le (length (filter (λ k. not k.sharded) keyspaces)) 1 && list_all (λ k. is_word k.name) keyspaces
    && not (has_twice (map (λ k. k.name) keyspaces)) && nat_le (length tables) 256
    && not (has_twice (map (λ t. t.name) tables)) && list_all (is_table keyspaces) tables
