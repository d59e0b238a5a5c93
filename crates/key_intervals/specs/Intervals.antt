-- The values that a column has, and the keys, in the rows that a condition keeps: intervals.
use Rattle.std.specs.Prelude.{Bool, true, ◌&&◌, List, Option, Some, None}
use Rattle.std.specs.Borrow.{Bor}
use Rattle.std.specs.Ordering.{is_lt, is_le}
use Rattle.std.specs.Cmp.Lexicographic.{slice_cmp}
use Rattle.std.specs.declared.ops.Bound.{Bound}
use Rattle.std.specs.declared.ops.Bound.TheVariants.{Included, Excluded, Unbounded}
use Rattle.vt_value.specs.declared.value.Value.{Value}
use Rattle.vt_value.specs.declared.value.Comparison.TheVariants.{Lt, Le, Gt, Ge}
use Rattle.vt_value.specs.Values.{value_cmp, fits_order}
use Rattle.key_intervals.specs.declared.column.Interval.{Interval}
use Rattle.key_intervals.specs.declared.keys.KeyInterval.{KeyInterval}

-- the value is on the inner side of a lower bound
abbrev pub is_above : Bound (Bor Value) → Value → Bool
is_above Unbounded x = true
is_above (Included v) x = fits_order Ge (value_cmp x v.now)
is_above (Excluded v) x = fits_order Gt (value_cmp x v.now)

-- and of an upper one
abbrev pub is_under : Bound (Bor Value) → Value → Bool
is_under Unbounded x = true
is_under (Included v) x = fits_order Le (value_cmp x v.now)
is_under (Excluded v) x = fits_order Lt (value_cmp x v.now)

-- the value lies in the interval
abbrev pub is_inside : Interval → Value → Bool
is_inside i x = is_above i.low x && is_under i.high x

-- a key is before the list of values, if one is given
abbrev pub is_below : Option (List Value) → List Value → Bool
is_below None key = true
is_below (Some below) key = is_lt (slice_cmp value_cmp key below)

-- a key isn't before the one list of values, and is before the other
abbrev pub in_interval : KeyInterval → List Value → Bool
in_interval keys key = is_le (slice_cmp value_cmp keys.from key) && is_below keys.below key
