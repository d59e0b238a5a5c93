-- A table's rows, each in the slot of its own key: the values of the table's key columns.
use Rattle.std.specs.Prelude.{◌≡◌, ℕ, Bool, List, length, map, slice_index, Some}
use Rattle.std.specs.List.{AllByRecursion}
use Rattle.std.specs.Ordering.{is_eq}
use Rattle.vt_value.specs.declared.value.Value.{Value}
use Rattle.vt_value.specs.Values.{Row, value_at, value_cmp}
use Rattle.sql_eval.specs.Database.{same_row}
use Rattle.shard_store.specs.Slots.{Slot, rows_in}

-- a table: its slots, those that can be changed without memory, and the ordinals of its key columns
pub record TableView : Type 0 where
  pub slots : List Slot
  pub ready : List Slot
  pub ordinals : List ℕ

-- the values of a row's key columns
abbrev pub key_at : List ℕ → Row → List Value
key_at ordinals row = map (value_at row) ordinals

-- the row has these values in its key columns
abbrev pub has_key : List ℕ → List Value → Row → Bool
has_key ordinals values row = same_row values (key_at ordinals row)

-- the row's first key column has the value
abbrev pub begins_with : List ℕ → Value → Row → Bool
begins_with ordinals v row = is_eq (value_cmp v (value_at row (slice_index ordinals 0)))

-- a slot's row, if it has one, has the slot's key
abbrev pub IsAtItsKey : List ℕ → Slot → Type 0
IsAtItsKey ordinals s = (row : Row) → s.1 ≡ Some row → s.0.values ≡ key_at ordinals row

-- what is true of each stored table: its rows are at their keys, and their count is known
pub record IsStored (ordinals : List ℕ) (slots : List Slot) (count : ℕ) : Type 0 where
  pub keyed : AllByRecursion (IsAtItsKey ordinals) slots
  pub counted : count ≡ length (rows_in slots)
