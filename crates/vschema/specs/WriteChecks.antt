-- The checks of an INSERT, an UPDATE and a DELETE against its table, each of the whole statement.
use Rattle.std.specs.Prelude.{ℕ, pos, negsuc, Bool, false, not, ◌&&◌, ◌||◌, ◌==◌, nat_lt, int_lt, List, [], ◌∷◌, length, map, flat_map, zip, slice_get, bytes_eq, Option, Some, None, option_to_list}
use Rattle.std.specs.List.{list_any}
use Rattle.vt_value.specs.declared.value.Value.{Value}
use Rattle.vt_value.specs.declared.value.Value.TheVariants.{Int, Bytes}
use Rattle.vt_value.specs.Values.{is_null}
use Rattle.sql_tree.specs.declared.Assignment.{Assignment}
use Rattle.sql_tree.specs.declared.Insert.{Insert}
use Rattle.sql_tree.specs.declared.Update.{Update}
use Rattle.sql_tree.specs.declared.Delete.{Delete}
use Rattle.vschema_json.specs.declared.column.Column.{Column}
use Rattle.vschema_json.specs.declared.column.ColumnType.{ColumnType}
use Rattle.vschema_json.specs.declared.column.ColumnType.TheVariants.{BigInt, BigIntUnsigned, VarBinary}
use Rattle.vschema.specs.declared.schema.ColumnVindex.{ColumnVindex}
use Rattle.vschema.specs.declared.schema.Table.{Table}
use Rattle.vschema.specs.Scopes.{only}
use Rattle.vschema.specs.Resolved.{Name, ordinal, ordinals_from}
use Rattle.vschema.specs.Checks.{is_unknown, filter_has, condition_names_unknown, condition_mixes, is_text_type, value_is_text, differ, has_number}
pub use Rattle.vschema_json.specs.Twice.{has_twice}

-- SET names a column twice
abbrev pub sets_twice : List (Assignment Name) → Bool
sets_twice [] = false
sets_twice (a ∷ assignments) = list_any (λ b. bytes_eq a.column b.column) assignments || sets_twice assignments

abbrev pub listed_names : Option (List Name) → List Name
listed_names None = []
listed_names (Some names) = names

-- the columns that INSERT names
abbrev pub insert_names : Insert → List Name
insert_names s = listed_names s.columns

-- the ordinals of INSERT's columns: all of them, in their order, if none is named
abbrev pub insert_ordinals : Table → Option (List Name) → List ℕ
insert_ordinals t None = ordinals_from 0 t.columns
insert_ordinals t (Some names) = map (ordinal t) names

-- a row has another number of values than INSERT has columns
abbrev pub has_wrong_count : Table → Insert → Bool
has_wrong_count t s = list_any (λ row. not (length row == length (insert_ordinals t s.columns))) s.rows

abbrev pub insert_names_unknown : Table → Insert → Bool
insert_names_unknown t s = list_any (is_unknown t) (insert_names s)

abbrev pub update_names_unknown : Table → Update → Bool
update_names_unknown t s =
    list_any (λ a. is_unknown t a.column) s.assignments || filter_has (condition_names_unknown (only t)) s.filter

abbrev pub delete_names_unknown : Table → Delete → Bool
delete_names_unknown t s = filter_has (condition_names_unknown (only t)) s.filter

-- values that are stored, each with its column
abbrev pub Stored : Type 0
Stored = List (Column × Value)

abbrev pub with_column : Table → ℕ → Value → Stored
with_column t n v = map (λ c. (c, v)) (option_to_list (slice_get t.columns n))

-- the values that INSERT stores
abbrev pub inserted_values : Table → Insert → Stored
inserted_values t s =
    flat_map (λ row. flat_map (λ p. with_column t p.0 p.1) (zip (insert_ordinals t s.columns) row)) s.rows

-- the values that SET stores
abbrev pub assigned_values : Table → Update → Stored
assigned_values t s = flat_map (λ a. with_column t (ordinal t a.column) a.value) s.assignments

-- a text is stored in a column of numbers, or a number in one of texts
abbrev pub has_other_kind : Stored → Bool
has_other_kind stored = list_any (λ p. differ (Some (is_text_type p.0.kind)) (value_is_text p.1)) stored

abbrev pub has_wrong_null : Stored → Bool
has_wrong_null stored = list_any (λ p. is_null p.1 && not p.0.nullable) stored

abbrev pub is_out_of_range : ColumnType → Value → Bool
is_out_of_range BigInt (Int n) = int_lt n (negsuc 9223372036854775807) || int_lt (pos 9223372036854775807) n
is_out_of_range BigIntUnsigned (Int n) = int_lt n (pos 0) || int_lt (pos 18446744073709551615) n
is_out_of_range _ _ = false

abbrev pub has_out_of_range : Stored → Bool
has_out_of_range stored = list_any (λ p. is_out_of_range p.0.kind p.1) stored

abbrev pub is_too_long : ColumnType → Value → Bool
is_too_long (VarBinary most) (Bytes t) = nat_lt most (length t)
is_too_long _ _ = false

abbrev pub has_too_long : Stored → Bool
has_too_long stored = list_any (λ p. is_too_long p.0.kind p.1) stored

-- a NOT NULL column that INSERT doesn't name
abbrev pub leaves_out_column : Table → Insert → Bool
leaves_out_column t s =
    list_any (λ p. not p.1.nullable && not (has_number (insert_ordinals t s.columns) p.0))
    (zip (ordinals_from 0 t.columns) t.columns)

abbrev pub is_vindex_column : Option ColumnVindex → ℕ → Bool
is_vindex_column None n = false
is_vindex_column (Some v) n = v.column == n

-- a column of the primary key, or the vindex column
abbrev pub is_key_column : Table → ℕ → Bool
is_key_column t n = has_number t.primary_key n || is_vindex_column t.vindex n

-- SET of a primary key column or the vindex column
abbrev pub sets_key : Table → Update → Bool
sets_key t s = list_any (λ a. is_key_column t (ordinal t a.column)) s.assignments

-- a comparison or SET has a number on one side and a text on the other, or a key is set
abbrev pub update_is_not_supported : Table → Update → Bool
update_is_not_supported t s =
    filter_has (condition_mixes (only t)) s.filter || has_other_kind (assigned_values t s) || sets_key t s

abbrev pub delete_is_not_supported : Table → Delete → Bool
delete_is_not_supported t s = filter_has (condition_mixes (only t)) s.filter
