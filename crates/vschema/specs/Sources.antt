-- The rows that a query is over: those of its table, or the pairs of rows of two tables.
use Rattle.std.specs.Prelude.{◌≡◌, ℕ, zero, suc, ◌+◌, ◌<◌, Bool, false, List, [], ◌∷◌, ◌++◌, map, filter, flat_map, length, slice_get, Option, Some, None}
use Rattle.std.specs.List.{AllByRecursion}
use Rattle.vt_value.specs.declared.value.Value.TheVariants.{Null}
use Rattle.vt_value.specs.declared.value.Comparison.TheVariants.{Eq}
use Rattle.vt_value.specs.Values.{Row, value_at, compare, is_true}
use Rattle.vschema_json.specs.declared.column.Column.{Column}
use Rattle.vschema_json.specs.declared.column.ColumnType.{ColumnType}
use Rattle.vschema_json.specs.declared.column.ColumnType.TheVariants.{BigInt}
use Rattle.vschema.specs.declared.schema.ColumnVindex.{ColumnVindex}
use Rattle.vschema.specs.declared.schema.Join.{Join}
use Rattle.vschema.specs.declared.schema.Query.{Query}
use Rattle.vschema.specs.declared.schema.Table.{Table}
use Rattle.vschema.specs.declared.schema.VSchema.{VSchema}
use Rattle.vschema.specs.Schema.{table_at}
use Rattle.vschema.specs.Checks.{is_aggregated}
use Rattle.vschema.specs.Database.{Database, rows_of}

-- the first values of a row, so many, with NULL after its last one
abbrev pub padded_row : ℕ → Row → Row
padded_row zero row = []
padded_row (suc n) [] = Null ∷ padded_row n []
padded_row (suc n) (v ∷ row) = v ∷ padded_row n row

-- the values of the first, one for each of its table's columns, and then those of the second
abbrev pub paired : Join → Row → Row → Row
paired j a b = padded_row j.width a ++ b

-- two rows are a pair if the two columns have equal values, of which then neither is NULL
abbrev pub is_pair : Join → Row → Row → Bool
is_pair j a b = is_true (compare Eq (value_at (paired j a b) j.first) (value_at (paired j a b) j.second))

-- each pair of these rows with those, once for each time that both are there
abbrev pub pairs_of : Join → List Row → List Row → List Row
pairs_of j firsts seconds = flat_map (λ a. map (paired j a) (filter (is_pair j a) seconds)) firsts

-- the rows, or their pairs with those of the second table
abbrev pub with_pairs : Option Join → List Row → Database → List Row
with_pairs None rows db = rows
with_pairs (Some j) rows db = pairs_of j rows (rows_of db j.table)

-- the bag of the rows that a query is over
abbrev pub source_rows : Query → Database → List Row
source_rows q db = with_pairs q.join (rows_of db q.table) db

-- the tables that a query is over
abbrev pub join_tables : Option Join → List ℕ
join_tables None = []
join_tables (Some j) = j.table ∷ []

abbrev pub source_tables : Query → List ℕ
source_tables q = q.table ∷ join_tables q.join

-- each of them is one of so many tables
abbrev pub SourcesThere : ℕ → Query → Type 0
SourcesThere count q = AllByRecursion (λ n. n < count) (source_tables q)

-- ---- joins that shards can make by themselves

abbrev pub kind_of : Option Column → ColumnType
kind_of None = BigInt
kind_of (Some c) = c.kind

-- the type of the column at an ordinal
abbrev pub type_at : Table → ℕ → ColumnType
type_at t n = kind_of (slice_get t.columns n)

-- Neither table has a vindex; or both have the same one, on the columns that are equal.
abbrev pub HaveOneId : ℕ → ℕ → Option ColumnVindex → Option ColumnVindex → Type 0
HaveOneId first second None None = Unit {0}
HaveOneId first second None (Some w) = ⊥
HaveOneId first second (Some v) None = ⊥
HaveOneId first second (Some v) (Some w) = (v.vindex ≡ w.vindex) × (v.column ≡ first) × (w.column ≡ second)

-- Rows that are a pair have one keyspace id, so that they lie on one shard. The columns are one of each table, by their ordinals in a pair.
pub record IsInPlace (schema : VSchema) (q : Query) (j : Join) : Type 0 where
  pub plain : is_aggregated q ≡ false
  pub keyspace : (table_at schema j.table).keyspace ≡ (table_at schema q.table).keyspace
  pub width : j.width ≡ length (table_at schema q.table).columns
  pub first : j.first < j.width
  pub second : ℕ
  pub ordinal : j.second ≡ j.width + second
  pub kind : j.kind ≡ type_at (table_at schema j.table) second
  pub ids : HaveOneId j.first second (table_at schema q.table).vindex (table_at schema j.table).vindex

-- the query is over one table, or its join is such a one
abbrev pub JoinsInPlace : VSchema → Query → Type 0
JoinsInPlace schema q = (j : Join) → q.join ≡ Some j → IsInPlace schema q j
