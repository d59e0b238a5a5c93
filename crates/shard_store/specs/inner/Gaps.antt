-- Keys between one and another.
use Rattle.std.specs.Prelude.{◌≡◌, Bool, true, false, ◌&&◌, List, Option, Some, None}
use Rattle.std.specs.List.{list_any}
use Rattle.std.specs.Ordering.{is_lt}
use Rattle.std.specs.Cmp.Lexicographic.{slice_cmp}
use Rattle.vt_value.specs.Values.{Row, value_cmp, same_row}
use Rattle.shard_store.specs.declared.removed_rows.LentRow.{LentRow}
use Rattle.shard_store.specs.declared.removed_rows.Gap.{Gap}
use Rattle.shard_store.specs.inner.Overlays.{lent_key}

-- the key is before the row's, if a row is given
abbrev pub is_below_lent : Option LentRow → Row → Bool
is_below_lent None key = true
is_below_lent (Some lent) key = is_lt (slice_cmp value_cmp key (lent_key lent))

abbrev pub in_gap : Gap → Row → Bool
in_gap gap key = is_lt (slice_cmp value_cmp gap.after.now.values key) && is_below_lent gap.before key

-- none of these keys is in the gap
abbrev pub IsGapIn : List Row → Gap → Type 0
IsGapIn keys gap = (key : Row) → in_gap gap key ≡ true → list_any (same_row key) keys ≡ false
