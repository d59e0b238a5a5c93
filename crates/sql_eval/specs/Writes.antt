-- What a write does to a database.
use Rattle.std.specs.Prelude.{ℕ, Bool, false, ◌||◌, List, [], ◌∷◌, length, map, flat_map, filter, slice_index_or, slice_set, Result, Ok, Err, Option, if◌then◌else◌}
use Rattle.std.specs.List.{list_any}
use Rattle.vt_value.specs.declared.refusal.Refusal.{Refusal}
use Rattle.vt_value.specs.declared.refusal.Refusal.TheVariants.{DuplicateKey}
use Rattle.vt_value.specs.Values.{Row}
use Rattle.sql_tree.specs.declared.Assignment.{Assignment}
use Rattle.sql_tree.specs.declared.Condition.{Condition}
use Rattle.vschema.specs.declared.schema.Table.{Table}
use Rattle.vschema.specs.declared.schema.VSchema.{VSchema}
use Rattle.vschema.specs.declared.changes.Write.{Write}
use Rattle.vschema.specs.declared.changes.Write.TheVariants.{Insert, Update, Delete}
use Rattle.vschema.specs.declared.changes.RowChange.{RowChange}
use Rattle.vschema.specs.declared.changes.RowChange.TheVariants.{Added, Replaced, Removed}
use Rattle.vschema.specs.Schema.{key_of, no_table}
use Rattle.vschema.specs.Database.{Database, rows_of, same_row, all_applied}
use Rattle.sql_eval.specs.Conditions.{is_kept}

-- a row of INSERT has the primary key of a row that is there, or of another row of the INSERT
abbrev pub has_duplicate : Table → List Row → List Row → Bool
has_duplicate t rows [] = false
has_duplicate t rows (new ∷ more) =
    list_any (λ row. same_row (key_of t new) (key_of t row)) rows || has_duplicate t (new ∷ rows) more

-- a row with its SET values
abbrev pub assigned : List (Assignment ℕ) → Row → Row
assigned [] row = row
assigned (a ∷ assignments) row = assigned assignments (slice_set row a.column a.value)

-- UPDATE changes the rows that it keeps and whose values really change
abbrev pub row_updates : ℕ → List (Assignment ℕ) → Option (Condition ℕ) → Row → List RowChange
row_updates n assignments filter' row =
    if is_kept filter' row then
    (if same_row row (assigned assignments row) then [] else Replaced n row (assigned assignments row) ∷ [])
    else []

-- the ordinal of the table that a write names
abbrev pub written_table : Write → ℕ
written_table (Insert n new) = n
written_table (Update n assignments filter') = n
written_table (Delete n filter') = n

-- the changes of a write over the rows of its table, or the refusal of a primary key that is there already
abbrev pub changes_over : Table → Write → List Row → Result (List RowChange) Refusal
changes_over t (Insert n new) rows = if has_duplicate t rows new then Err DuplicateKey else Ok (map (Added n) new)
changes_over t (Update n assignments filter') rows = Ok (flat_map (row_updates n assignments filter') rows)
changes_over t (Delete n filter') rows = Ok (map (Removed n) (filter (is_kept filter') rows))

-- the same over a database
abbrev pub changes_of : VSchema → Write → Database → Result (List RowChange) Refusal
changes_of schema w db =
    changes_over (slice_index_or schema.tables (written_table w) no_table) w (rows_of db (written_table w))

-- the database after a write, and the count that its client is told: the rows added, removed or really changed
abbrev pub change : VSchema → Write → Database → Result (Database × ℕ) Refusal
change schema w db = after (changes_of schema w db)
  where
    after : Result (List RowChange) Refusal → Result (Database × ℕ) Refusal
    after (Ok changes) = Ok (all_applied changes db, length changes)
    after (Err r) = Err r
