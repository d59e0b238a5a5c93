use Rattle.std.proofs.Common.{◌≡◌, ◌++◌, List, map, take}
use Rattle.vt_value.specs.declared.value.Value.{Value as V}
use Rattle.sql_eval.specs.Sources.{padded_row}
use Rattle.sql_eval.specs.Conditions.{truth_at}
use Rattle.key_intervals.proofs.pushdown.+below.Given as goal

abbrev pub invariant-are_below-loop-member : goal.invariant-are_below-loop-member
invariant-are_below-loop-member l =
    (first second : List V) → map (truth_at (padded_row l.width first ++ second)) (take l.member-index l.members) ≡ map (truth_at first) (take l.member-index l.members)
