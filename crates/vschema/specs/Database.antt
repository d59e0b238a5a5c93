-- A database: for each table of the VSchema, in its order, a bag of rows. A bag is a list of which the order says
-- nothing.
use Rattle.std.specs.Prelude.{ℕ, Bool, ◌&&◌, ◌==◌, List, [], ◌∷◌, ◌++◌, filter, slice_index_or, slice_set, IsPermutation, if◌then◌else◌}
use Rattle.vt_value.specs.Values.{Row}
pub use Rattle.vt_value.specs.Values.{same_row}
use Rattle.keyrange.specs.Ranges.{has_id}
use Rattle.vschema.specs.declared.schema.Table.{Table}
use Rattle.vschema.specs.declared.schema.VSchema.{VSchema}
use Rattle.vschema.specs.declared.schema.Place.{Place}
use Rattle.vschema.specs.declared.changes.RowChange.{RowChange}
use Rattle.vschema.specs.declared.changes.RowChange.TheVariants.{Added, Replaced, Removed}
use Rattle.vschema.specs.Schema.{row_id, no_table}

abbrev pub Database : Type 0
Database = List (List Row)

abbrev pub rows_of : Database → ℕ → List Row
rows_of db n = slice_index_or db n []

-- two databases with the same bags
abbrev pub SameRows : Database → Database → Type 0
SameRows [] [] = Unit {0}
SameRows [] (ys ∷ b) = ⊥
SameRows (xs ∷ a) [] = ⊥
SameRows (xs ∷ a) (ys ∷ b) = IsPermutation xs ys × SameRows a b

-- a row of the table lies in the place: the table is of its keyspace, and the row's keyspace id is in its range
abbrev pub lies_in : Place → Table → Row → Bool
lies_in place t row = (t.keyspace == place.keyspace) && has_id place.range (row_id t row)

abbrev pub restricted : List Table → Place → Database → Database
restricted [] place db = []
restricted (t ∷ tables) place [] = []
restricted (t ∷ tables) place (rows ∷ db) = filter (lies_in place t) rows ∷ restricted tables place db

-- the rows that lie in the place
abbrev pub restrict : VSchema → Place → Database → Database
restrict schema place db = restricted schema.tables place db

-- the rows of both, table by table
abbrev pub union : Database → Database → Database
union [] b = b
union (xs ∷ a) [] = xs ∷ a
union (xs ∷ a) (ys ∷ b) = (xs ++ ys) ∷ union a b

-- the rows without the first that is this one
abbrev pub without : Row → List Row → List Row
without r [] = []
without r (x ∷ rows) = if same_row r x then rows else x ∷ without r rows

abbrev pub with_rows : ℕ → List Row → Database → Database
with_rows n rows db = slice_set db n rows

-- the database after a change of one row
abbrev pub applied : RowChange → Database → Database
applied (Added n row) db = with_rows n (rows_of db n ++ row ∷ []) db
applied (Replaced n old new) db = with_rows n (without old (rows_of db n) ++ new ∷ []) db
applied (Removed n row) db = with_rows n (without row (rows_of db n)) db

-- the database after each of the changes, in order
abbrev pub all_applied : List RowChange → Database → Database
all_applied [] db = db
all_applied (c ∷ changes) db = all_applied changes (applied c db)

abbrev pub changed_table : RowChange → ℕ
changed_table (Added n row) = n
changed_table (Replaced n old new) = n
changed_table (Removed n row) = n

-- The row that decides in which place a change lies. A typed write leaves the vindex column, so the old row of a change
-- has the new one's keyspace id.
abbrev pub changed_row : RowChange → Row
changed_row (Added n row) = row
changed_row (Replaced n old new) = new
changed_row (Removed n row) = row

abbrev pub change_lies_in : VSchema → Place → RowChange → Bool
change_lies_in schema place c = lies_in place (slice_index_or schema.tables (changed_table c) no_table) (changed_row c)

-- the changes of the rows that lie in the place
abbrev pub restricted_changes : VSchema → Place → List RowChange → List RowChange
restricted_changes schema place changes = filter (change_lies_in schema place) changes
