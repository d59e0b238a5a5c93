-- Values without those that are listed twice, and the slots and keys that are chosen by values and intervals.
use Rattle.std.specs.Prelude.{Bool, ◌&&◌, List, [], ◌∷◌, filter, Option, Some, None, if◌then◌else◌}
use Rattle.std.specs.Borrow.{Bor}
use Rattle.std.specs.List.{list_any}
use Rattle.std.specs.Ordering.{is_lt, is_le}
use Rattle.std.specs.Cmp.Lexicographic.{slice_cmp}
use Rattle.vt_value.specs.declared.value.Value.{Value}
use Rattle.vt_value.specs.Values.{value_cmp}
use Rattle.key_intervals.specs.declared.keys.KeyInterval.{KeyInterval}
use Rattle.key_intervals.specs.Intervals.{is_below}
use Rattle.shard_store.specs.Slots.{Slot, begins, may_begin}

-- those that are above the last one that was taken, of which the first may be given
abbrev pub risen : Option Value → List Value → List Value
risen last [] = []
risen None (v ∷ values) = v ∷ risen (Some v) values
risen (Some l) (v ∷ values) = if is_lt (value_cmp l v) then v ∷ risen (Some v) values else risen (Some l) values

-- the slots whose keys begin with one of the values
abbrev pub slots_among : List Value → List Slot → List Slot
slots_among values slots = filter (λ s. list_any (λ v. begins v s.0.values) values) slots

-- a key lies in the interval, and begins with the value, if one is given
abbrev pub lies_between : Option (Bor Value) → KeyInterval → List Value → Bool
lies_between first keys key = is_le (slice_cmp value_cmp keys.from key) && (is_below keys.below key && may_begin first key)
