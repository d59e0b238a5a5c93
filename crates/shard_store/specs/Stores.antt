-- What contracts see of a store of rows, and of the changes that it does.
use Rattle.std.specs.Prelude.{◌≡◌, ℕ, Bool, false, ◌==◌, ◌≤◌, List, [], map, slice_index, slice_index_or, count_by, IsSome}
use Rattle.std.specs.List.{AllByRecursion}
use Rattle.vt_value.specs.Values.{Row}
use Rattle.sql_eval.specs.RowChange.{RowChange}
use Rattle.sql_eval.specs.RowChange.TheVariants.{Added, Replaced, Removed}
use Rattle.sql_eval.specs.Database.{Database, changed_table, all_applied}
use Rattle.shard_store.specs.declared.key.RowKey.{RowKey}
use Rattle.shard_store.specs.declared.key.KeyedChange.{KeyedChange}
use Rattle.shard_store.specs.declared.key.KeyedChange.TheVariants.{Put, Take, Swap}
use Rattle.shard_store.specs.Tables.{key_at}
use Rattle.shard_store.specs.Slots.{Slot, slot_at}

-- a table: its rows, the slots that can be changed without memory, the ordinals of its key columns, and for how many more rows without
-- slots there is memory
pub record RowsView : Type 0 where
  pub rows : List Row
  pub ready : List Slot
  pub ordinals : List ℕ
  pub room : ℕ

-- a table with changes that it does not have: the rows then, and the ordinals of its key columns
pub record ChangedView : Type 0 where
  pub rows : List Row
  pub ordinals : List ℕ

-- the rows of all tables, their slots that can be changed without memory, the ordinals of their key columns, and their room
pub record StoreView : Type 0 where
  pub rows : Database
  pub ready : List (List Slot)
  pub ordinals : List (List ℕ)
  pub room : List ℕ

-- a table that the store doesn't have has no key columns
abbrev pub ordinals_of : StoreView → ℕ → List ℕ
ordinals_of s n = slice_index_or s.ordinals n []

-- no slots
abbrev pub ready_of : StoreView → ℕ → List Slot
ready_of s n = slice_index_or s.ready n []

-- and no room
abbrev pub room_of : StoreView → ℕ → ℕ
room_of s n = slice_index s.room n

abbrev pub change_in : KeyedChange → RowChange
change_in (Put n k) = Added n k.row
change_in (Take n k) = Removed n k.row
change_in (Swap n k) = Replaced n k.old k.new

abbrev pub changes_in : List KeyedChange → List RowChange
changes_in changes = map change_in changes

-- the key is that of the row, or of both rows
abbrev pub IsByItsKey : StoreView → KeyedChange → Type 0
IsByItsKey s (Put n k) = k.key.values ≡ key_at (ordinals_of s n) k.row
IsByItsKey s (Take n k) = k.key.values ≡ key_at (ordinals_of s n) k.row
IsByItsKey s (Swap n k) = (k.key.values ≡ key_at (ordinals_of s n) k.old) × (k.key.values ≡ key_at (ordinals_of s n) k.new)

abbrev pub key_in : KeyedChange → RowKey
key_in (Put n k) = k.key
key_in (Take n k) = k.key
key_in (Swap n k) = k.key

-- the key has a slot that can be changed without memory
abbrev pub HasReadySlot : StoreView → KeyedChange → Type 0
HasReadySlot s change = IsSome (slot_at (ready_of s (changed_table (change_in change))) (key_in change))

-- the key is that of the row, and has a slot that can be changed without memory
abbrev pub HasItsKey : StoreView → KeyedChange → Type 0
HasItsKey s change = IsByItsKey s change × HasReadySlot s change

-- the change puts a row into the table at the ordinal
abbrev pub puts_into : ℕ → KeyedChange → Bool
puts_into n (Put m k) = m == n
puts_into n (Take m k) = false
puts_into n (Swap m k) = m == n

-- each table has room for all rows that the changes put into it
abbrev pub HasRoomFor : StoreView → List KeyedChange → Type 0
HasRoomFor s changes = (n : ℕ) → count_by (puts_into n) changes ≤ room_of s n

-- the store can do the changes, by their keys, without memory
pub record IsReadyFor (s : StoreView) (changes : List RowChange) (keyed : List KeyedChange) : Type 0 where
  pub same : (db : Database) → all_applied (changes_in keyed) db ≡ all_applied changes db
  pub keys : AllByRecursion (HasItsKey s) keyed
  pub room : HasRoomFor s keyed
