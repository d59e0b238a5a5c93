-- What one change leaves of a table's rows, and which rows a statement looks at.
use Rattle.std.specs.Prelude.{Bool, true, List, [], ◌∷◌, ◌++◌}
use Rattle.std.specs.List.{list_any}
use Rattle.vt_value.specs.Values.{Row}
use Rattle.vschema.specs.declared.changes.RowChange.{RowChange}
use Rattle.vschema.specs.declared.changes.RowChange.TheVariants.{Added, Replaced, Removed}
use Rattle.vschema.specs.Schema.{key_of}
use Rattle.vschema.specs.Database.{same_row, without}
use Rattle.shard_store.specs.Conditions.{is_kept}
use Rattle.shard_contents.specs.declared.transaction_rows.RowSelection.{RowSelection}
use Rattle.shard_contents.specs.declared.transaction_rows.RowSelection.TheVariants.{All, Kept, Keyed}

-- what a change leaves of the rows of its table
abbrev pub row_after : RowChange → List Row → List Row
row_after (Added n row) rows = rows ++ row ∷ []
row_after (Replaced n old new) rows = without old rows ++ new ∷ []
row_after (Removed n row) rows = without row rows

-- the row is one that a statement looks at
abbrev pub is_selected : RowSelection → Row → Bool
is_selected All row = true
is_selected (Kept condition) row = is_kept condition.now row
is_selected (Keyed t new) row = list_any (λ n. same_row (key_of t.now n) (key_of t.now row)) new.now
