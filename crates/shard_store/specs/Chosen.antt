-- The rows that a condition chooses to be looked at.
use Rattle.std.specs.Prelude.{List, ◌++◌, option_to_list, option_copied}
use Rattle.vt_value.specs.Values.{Row}
use Rattle.shard_store.specs.declared.walk.ChosenSlots.{ChosenSlots}
use Rattle.shard_store.specs.declared.walk.ChosenSlots.TheVariants.{All, Between, Among}
use Rattle.shard_store.specs.declared.walk.ChosenRows.{ChosenRows}
use Rattle.shard_store.specs.declared.walk.RowsAt.{RowsAt}

-- those in slots
abbrev pub slots_chosen : ChosenSlots → List Row
slots_chosen (All rows) = rows
slots_chosen (Between rows) = rows
slots_chosen (Among rows) = rows

-- and those outside them
abbrev pub rows_chosen : ChosenRows → List Row
rows_chosen rows = slots_chosen rows.slots ++ rows.unslotted

-- those of one key: the one in its slot, and those outside slots
abbrev pub rows_at : RowsAt → List Row
rows_at rows = option_to_list (option_copied rows.slotted) ++ rows.unslotted
