-- Values whose ids lie between a least and a greatest one.
use Rattle.std.specs.Prelude.{◌≡◌, ℕ, true, false, List}
use Rattle.std.specs.List.{AllByRecursion}
use Rattle.vt_value.specs.declared.value.Value.{Value}
use Rattle.vindex.specs.KeyspaceIds.{keyspace_id, is_key}
use Rattle.keyrange.specs.Ranges.{is_before}
use Rattle.planner.specs.declared.spans.Span.{Span}

-- not before the least, nor behind the greatest
abbrev pub IsBetween : Span → List ℕ → Type 0
IsBetween s id = (is_before id s.least ≡ false) × (is_before s.greatest id ≡ false)

-- a key of the span's vindex, whose id lies in the span
abbrev pub IsIn : Span → Value → Type 0
IsIn s v = (is_key s.vindex v ≡ true) × IsBetween s (keyspace_id s.vindex v)

abbrev pub AllIn : List Value → Span → Type 0
AllIn values s = AllByRecursion (IsIn s) values
