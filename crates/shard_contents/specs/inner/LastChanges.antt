-- How many entries a shard had stored when each table was last changed.
use Rattle.std.specs.Prelude.{◌≡◌, ℕ, nat_lt, Bool, List, slice_index_or}
use Rattle.std.specs.List.{list_any}
use Rattle.vschema.specs.declared.changes.RowChange.{RowChange}
use Rattle.shard_contents.specs.declared.touched_table.Touch.{Touch}
use Rattle.shard_contents.specs.inner.KeptConflicts.{is_changed_since}

-- how many entries there were when one last changed the table; 0 if none has
abbrev pub last_change : List ℕ → ℕ → ℕ
last_change last table = slice_index_or last table 0

-- there were fewer entries at the touch than when its table was last changed
abbrev pub tells_change : List ℕ → Touch → Bool
tells_change last t = nat_lt t.stored (last_change last t.table)

abbrev pub tells_conflict : List ℕ → List Touch → Bool
tells_conflict last touched = list_any (tells_change last) touched

-- A touched table was changed since if that is so, and only then.
abbrev pub TellLastChanges : List (List RowChange) → List ℕ → Type 0
TellLastChanges entries last = (t : Touch) → is_changed_since entries t ≡ tells_change last t
