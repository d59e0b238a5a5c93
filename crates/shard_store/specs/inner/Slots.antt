-- The key of one value, and what a slot has.
use Rattle.std.specs.Prelude.{◌≡◌, Bool, true, false, ◌&&◌, List, [], ◌∷◌, ⊤, filter, Option, Some, None}
use Rattle.std.specs.Borrow.{Bor}
use Rattle.std.specs.Ordering.{is_le}
use Rattle.vt_value.specs.declared.value.Value.{Value}
use Rattle.vt_value.specs.Values.{Row}
use Rattle.sql_eval.specs.Database.{same_row}
use Rattle.shard_store.specs.declared.key.RowKey.{RowKey}
use Rattle.shard_store.specs.Keys.{row_key_cmp}
use Rattle.shard_store.specs.Slots.{Slot}

-- the key of the value alone: the least that begins with it
abbrev pub key_of_value : Value → RowKey
key_of_value v = record { values = v ∷ [] }

-- the key isn't before all that begin with the value, if one is given
abbrev pub IsAfterFirst : Option (Bor Value) → RowKey → Type 0
IsAfterFirst None key = ⊤
IsAfterFirst (Some v) key = is_le (row_key_cmp (key_of_value v.now) key) ≡ true

-- the slots from a key on to whose keys a walk goes on
abbrev pub slots_between : RowKey → (RowKey → Bool) → List Slot → List Slot
slots_between from on slots = filter (λ s. is_le (row_key_cmp from s.0) && on s.0) slots

-- whether a slot has this row
abbrev pub is_row : Row → Option Row → Bool
is_row row None = false
is_row row (Some found) = same_row row found
