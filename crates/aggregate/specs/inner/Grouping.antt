-- What the code holds of groups.
use Rattle.std.specs.Prelude.{ℕ, ◌+◌, ◌*◌, Bool, List, [], ◌∷◌, ◌++◌, map, take, drop}
use Rattle.std.specs.List.{list_any}
use Rattle.vt_value.specs.declared.value.Value.{Value}
use Rattle.vt_value.specs.Values.{Row, same_row}
use Rattle.operators.specs.Item.{Item}
use Rattle.aggregate.specs.declared.groups.Groups.{Groups}
use Rattle.aggregate.specs.inner.Columns.{AreGroups}

abbrev pub key_values : Groups → List Row
key_values groups = map (λ k. k.values) groups.keys.keys

abbrev pub IsGrouped : List (Item ℕ) → ℕ → List Row → Groups → Type 0
IsGrouped aggregates width rows groups = AreGroups aggregates width rows (key_values groups) groups.parts.items

-- of groups that have so many parts each, those of one
abbrev pub group_at : ℕ → ℕ → List Value → List Value
group_at columns ordinal parts = take columns (drop (ordinal * columns) parts)

-- others in their place
abbrev pub with_group : ℕ → ℕ → List Value → List Value → List Value
with_group columns ordinal group parts = take (ordinal * columns) parts ++ group ++ drop (ordinal * columns + columns) parts

-- the rows of groups, each with its parts in turn
abbrev pub finished_rows : ℕ → List Row → List Value → List Row
finished_rows columns [] parts = []
finished_rows columns (key ∷ keys) parts = (key ++ take columns parts) ∷ finished_rows columns keys (drop columns parts)

abbrev pub has_row : Row → List Row → Bool
has_row key keys = list_any (same_row key) keys
