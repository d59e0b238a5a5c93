use Rattle.std.proofs.Common.{◌≡◌, ◌++◌, ◌≤◌, ◌+◌, length, map, ◌<◌}
use Rattle.vt_value.specs.Values.{is_null}
use Rattle.resultset.specs.inner.Packing.{packed}
use Rattle.resultset.proofs.null_bitmap.put_bits.Given as goal

abbrev pub invariant-loop-rest : goal.invariant-loop-rest
invariant-loop-rest l =
    (l.out.items ++ packed l.bit l.byte (map is_null l.rest) ≡ l.fn.out.items ++ packed 4 0 (map is_null l.fn.row))
    × (l.byte < l.bit) × (l.bit ≤ 128)
    × (length l.fn.out.items + l.fn.out.spare ≤ length l.out.items + l.out.spare)

abbrev pub decreases-loop-rest : goal.decreases-loop-rest
decreases-loop-rest l = length l.rest
