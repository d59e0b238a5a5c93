-- Rows in slots that are still to come, with their slots or chosen by values.
use Rattle.std.specs.Prelude.{ℕ, List, ⊤}
use Rattle.std.specs.List.{AllByRecursion}
use Rattle.vt_value.specs.Values.{Row}
use Rattle.shard_store.specs.Slots.{rows_in}
use Rattle.shard_store.specs.Tables.{IsAtItsKey}
use Rattle.shard_store.specs.Chosen.{slots_chosen}
use Rattle.shard_store.specs.declared.left.SlotsLeft.{SlotsLeft}
use Rattle.shard_store.specs.declared.left.SlotsLeft.TheVariants.{All, Chosen}

abbrev pub rows_left : SlotsLeft → List Row
rows_left (All slots) = rows_in slots
rows_left (Chosen rows) = slots_chosen rows

-- rows that come with their slots are at their keys
abbrev pub AreKeyed : List ℕ → SlotsLeft → Type 0
AreKeyed ordinals (All slots) = AllByRecursion (IsAtItsKey ordinals) slots
AreKeyed ordinals (Chosen rows) = ⊤
