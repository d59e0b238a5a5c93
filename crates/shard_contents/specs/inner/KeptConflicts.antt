-- When another session has changed a table that a transaction touched, by what is kept of the entries.
use Rattle.std.specs.Prelude.{ℕ, Bool, ◌==◌, List, drop}
use Rattle.std.specs.List.{list_any}
use Rattle.vschema.specs.declared.changes.RowChange.{RowChange}
use Rattle.vschema.specs.Database.{changed_table}
use Rattle.shard_contents.specs.declared.touched_table.Touch.{Touch}

abbrev pub keeps_table : ℕ → List RowChange → Bool
keeps_table n changes = list_any (λ c. changed_table c == n) changes

abbrev pub is_changed_since : List (List RowChange) → Touch → Bool
is_changed_since stored t = list_any (keeps_table t.table) (drop t.stored stored)

abbrev pub is_conflict_since : List (List RowChange) → List Touch → Bool
is_conflict_since stored touched = list_any (is_changed_since stored) touched
