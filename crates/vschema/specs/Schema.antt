-- Tables and columns by name, and the keyspace id of a row.
use Rattle.std.specs.Prelude.{ℕ, List, [], bytes_eq, map, slice_index_or, Option, Some, None}
use Rattle.vt_value.specs.declared.value.Value.{Value}
use Rattle.vt_value.specs.Values.{Row, value_at}
use Rattle.vschema_json.specs.KeyspaceIds.{keyspace_id}
use Rattle.vschema.specs.declared.schema.ColumnVindex.{ColumnVindex}
use Rattle.vschema.specs.declared.schema.Table.{Table}
use Rattle.vschema.specs.declared.schema.VSchema.{VSchema}
pub use Rattle.vschema_json.specs.Places.{ordinal_from}

-- names are compared byte by byte
abbrev pub column_ordinal : Table → List ℕ → Option ℕ
column_ordinal t name = ordinal_from (λ c. bytes_eq c.name name) 0 t.columns

abbrev pub table_ordinal : VSchema → List ℕ → Option ℕ
table_ordinal schema name = ordinal_from (λ t. bytes_eq t.name name) 0 schema.tables

-- a row's primary key
abbrev pub key_of : Table → Row → List Value
key_of t row = map (value_at row) t.primary_key

-- the keyspace id of a row: the vindex applied to the vindex column. A row of a table without one has the empty id.
abbrev pub row_id : Table → Row → List ℕ
row_id t row = id_by t.vindex row
  where
    id_by : Option ColumnVindex → Row → List ℕ
    id_by None r = []
    id_by (Some v) r = keyspace_id v.vindex (value_at r v.column)

-- the table at an ordinal that the VSchema doesn't have
abbrev pub no_table : Table
no_table = record { name = []; keyspace = 0; columns = []; primary_key = []; vindex = None }

abbrev pub table_at : VSchema → ℕ → Table
table_at schema n = slice_index_or schema.tables n no_table
