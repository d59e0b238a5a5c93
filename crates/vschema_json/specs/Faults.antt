-- Why what a text declares is no VSchema.
use Rattle.std.specs.Prelude.{ℕ, Bool, false, not, ◌==◌, ◌||◌, nat_lt, List, [], ◌∷◌, length, map, flat_map, filter, find, slice_get, bytes_eq, Option, Some, None, option_map, option_and_then, unwrap_or, is_none}
use Rattle.std.specs.List.{list_any}
use Rattle.sql_tree.specs.Literals.{Name}
use Rattle.vindex.specs.declared.AnyVindex.{AnyVindex}
use Rattle.vschema_json.specs.declared.column.Column.{Column}
use Rattle.vschema_json.specs.declared.document.DeclaredVindex.{DeclaredVindex}
use Rattle.vschema_json.specs.declared.document.DeclaredKey.{DeclaredKey}
use Rattle.vschema_json.specs.declared.document.DeclaredTable.{DeclaredTable}
use Rattle.vschema_json.specs.declared.document.DeclaredKeyspace.{DeclaredKeyspace}
use Rattle.vschema_json.specs.declared.fault.SchemaFault.{SchemaFault}
use Rattle.vschema_json.specs.declared.fault.SchemaFault.TheVariants.{IllFormed, UnknownVindex, MissingColumn, WrongKeyType, NullableKey, KeyWithoutVindex, NamedTwice, AboveLimit}
use Rattle.vschema_json.specs.Places.{ordinal_from}
use Rattle.vschema_json.specs.Twice.{has_twice}
use Rattle.vschema_json.specs.ColumnTypes.{takes_type}

-- a table's column vindexes; there may be more than the one that is allowed
abbrev pub keys : DeclaredTable → List DeclaredKey
keys t = unwrap_or t.column_vindexes []

-- the vindexes that a keyspace declares
abbrev pub vindexes : DeclaredKeyspace → List DeclaredVindex
vindexes k = unwrap_or k.vindexes []

-- the first column with this name
abbrev pub ordinal_of : DeclaredTable → Name → Option ℕ
ordinal_of t name = ordinal_from (λ c. bytes_eq c.name name) 0 t.columns

abbrev pub column_of : DeclaredTable → Name → Option Column
column_of t name = option_and_then (slice_get t.columns) (ordinal_of t name)

-- the vindex that a keyspace declares under this name, if its type is known
abbrev pub vindex_of : DeclaredKeyspace → Name → Option AnyVindex
vindex_of k name = option_and_then (λ v. v.kind) (find (λ v. bytes_eq v.name name) (vindexes k))

abbrev pub lacks_column : DeclaredTable → Name → Bool
lacks_column t name = is_none (ordinal_of t name)

abbrev pub is_nullable : DeclaredTable → Name → Bool
is_nullable t name = unwrap_or (option_map (λ c. c.nullable) (column_of t name)) false

-- the vindex of a key and the column that it is on
abbrev pub mismatch : Option AnyVindex → Option Column → Bool
mismatch (Some v) (Some c) = not (takes_type v c.kind)
mismatch _ _ = false

-- column_vindexes stand exactly in the tables of a sharded keyspace, and aren't empty
abbrev pub is_misplaced : Bool → Option (List DeclaredKey) → Bool
is_misplaced sharded None = sharded
is_misplaced sharded (Some found) = not sharded || (length found == 0)

-- a fault that lies in one table
abbrev pub table_has : SchemaFault → DeclaredKeyspace → DeclaredTable → Bool
table_has IllFormed k t =
    (length t.columns == 0) || (length t.primary_key == 0) || has_twice t.primary_key || is_misplaced k.sharded t.column_vindexes
table_has UnknownVindex k t = list_any (λ e. is_none (vindex_of k e.vindex)) (keys t)
table_has MissingColumn k t = list_any (lacks_column t) t.primary_key || list_any (λ e. lacks_column t e.column) (keys t)
table_has WrongKeyType k t = list_any (λ e. mismatch (vindex_of k e.vindex) (column_of t e.column)) (keys t)
table_has NullableKey k t = list_any (is_nullable t) t.primary_key || list_any (λ e. is_nullable t e.column) (keys t)
table_has KeyWithoutVindex k t = list_any (λ e. not (list_any (bytes_eq e.column) t.primary_key)) (keys t)
table_has NamedTwice k t = has_twice (map (λ c. c.name) t.columns)
table_has AboveLimit k t = nat_lt 64 (length t.columns) || nat_lt 1 (length (keys t))
table_has _ k t = false

-- vindexes stand exactly in a sharded keyspace
abbrev pub is_out_of_place : Bool → Option (List DeclaredVindex) → Bool
is_out_of_place sharded None = sharded
is_out_of_place sharded (Some found) = not sharded

-- a fault that lies in one keyspace, with its tables
abbrev pub keyspace_has : SchemaFault → DeclaredKeyspace → Bool
keyspace_has IllFormed k = is_out_of_place k.sharded k.vindexes
keyspace_has UnknownVindex k = list_any (λ v. is_none v.kind) (vindexes k)
keyspace_has _ k = false

abbrev pub all_tables : List DeclaredKeyspace → List DeclaredTable
all_tables ks = flat_map (λ k. k.tables) ks

-- a fault of the whole text
abbrev pub whole_has : SchemaFault → List DeclaredKeyspace → Bool
whole_has IllFormed ks = length ks == 0
whole_has NamedTwice ks = has_twice (map (λ t. t.name) (all_tables ks))
whole_has AboveLimit ks =
    nat_lt 1 (length (filter (λ k. k.sharded) ks)) || nat_lt 1 (length (filter (λ k. not k.sharded) ks)) || nat_lt 256 (length (all_tables ks))
whole_has _ ks = false

abbrev pub has : SchemaFault → List DeclaredKeyspace → Bool
has fault ks = whole_has fault ks || list_any (λ k. keyspace_has fault k || list_any (table_has fault k) k.tables) ks

-- the faults of what a text declares, in the order of their numbers
abbrev pub faults : List SchemaFault
faults =
    IllFormed ∷ UnknownVindex ∷ MissingColumn ∷ WrongKeyType ∷ NullableKey ∷ KeyWithoutVindex ∷ NamedTwice ∷ AboveLimit ∷ []

abbrev pub first_fault : List DeclaredKeyspace → Option SchemaFault
first_fault ks = find (λ fault. has fault ks) faults
