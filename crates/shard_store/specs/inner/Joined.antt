-- Rows that are looked up by a value, and which first rows of pairs are looked at.
use Rattle.std.specs.Prelude.{◌≡◌, ◌<◌, ℕ, Bool, false, List, [], ◌∷◌, map, filter, length, slice_index, Option, Some, None}
use Rattle.std.specs.Borrow.{Bor}
use Rattle.std.specs.List.{AllByRecursion}
use Rattle.std.specs.Ordering.{is_eq, is_lt}
use Rattle.vt_value.specs.declared.value.Value.{Value}
use Rattle.vt_value.specs.Values.{Row, value_at, value_cmp}
use Rattle.shard_store.specs.Slots.{rows_in}
use Rattle.shard_store.specs.Tables.{TableView, begins_with}
use Rattle.shard_store.specs.Chosen.{slots_chosen}
use Rattle.shard_store.specs.declared.walk.ChosenSlots.{ChosenSlots}

-- rows, and the column by whose values they are looked up
pub record ColumnRows : Type 0 where
  pub column : ℕ
  pub rows : List Row

-- the row has the value in the column
abbrev pub has_value : ℕ → Value → Row → Bool
has_value column v row = is_eq (value_cmp v (value_at row column))

-- the column is the first by whose values a table's rows are stored
abbrev pub IsFirstKey : ℕ → List ℕ → Type 0
IsFirstKey column ordinals = (0 < length ordinals) × (slice_index ordinals 0 ≡ column)

-- a table's rows in slots are looked up by their first key column
abbrev pub StoredBy : ℕ → Option (Bor TableView) → Type 0
StoredBy column None = Unit {0}
StoredBy column (Some t) = IsFirstKey column t.now.ordinals

abbrev pub stored_rows : Option (Bor TableView) → List Row
stored_rows None = []
stored_rows (Some t) = rows_in t.now.slots

-- those of them that have a value there
abbrev pub stored_with : Value → Option (Bor TableView) → List Row
stored_with v None = []
stored_with v (Some t) = filter (begins_with t.now.ordinals v) (rows_in t.now.slots)

abbrev pub rows_lent : List (Bor Row) → List Row
rows_lent rows = map (λ r. r.now) rows

-- no row's value is below that of an earlier row
abbrev pub Rises : ℕ → List (Bor Row) → Type 0
Rises column [] = Unit {0}
Rises column (x ∷ rows) = AllByRecursion (λ y. is_lt (value_cmp (value_at y.now column) (value_at x.now column)) ≡ false) rows × Rises column rows

-- rows in slots that are still to come, if there are any
abbrev pub slots_left : Option ChosenSlots → List Row
slots_left None = []
slots_left (Some slots) = slots_chosen slots
