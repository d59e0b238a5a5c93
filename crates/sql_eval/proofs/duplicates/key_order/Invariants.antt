use Rattle.std.proofs.Common.{◌≡◌, drop, map}
use Rattle.std.specs.Cmp.Lexicographic.{slice_cmp}
use Rattle.vt_value.specs.Values.{value_at, value_cmp}
use Rattle.sql_eval.specs.KeyOrder.{key_cmp}
use Rattle.sql_eval.proofs.duplicates.key_order.Given as goal

-- the columns so far don't decide
abbrev pub invariant-loop-ordinal : goal.invariant-loop-ordinal
invariant-loop-ordinal l =
    slice_cmp value_cmp (map (value_at l.a) (drop l.ordinal-index l.table.primary_key)) (map (value_at l.b) (drop l.ordinal-index l.table.primary_key))
    ≡ key_cmp l.table l.a l.b
