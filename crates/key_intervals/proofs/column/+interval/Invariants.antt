use Rattle.std.proofs.Common.{◌≡◌, List, map, true}
use Rattle.vt_value.specs.declared.value.Value.{Value as V}
use Rattle.vt_value.specs.Values.{value_at, is_true, all_true}
use Rattle.sql_eval.specs.Conditions.{truth_at}
use Rattle.key_intervals.specs.Intervals.{is_inside}
use Rattle.key_intervals.proofs.column.+interval.Given as goal

abbrev pub invariant-narrow_by_each-loop-member : goal.invariant-narrow_by_each-loop-member
invariant-narrow_by_each-loop-member l =
    (row : List V) → is_inside l.fn.found (value_at row l.column) ≡ true → is_true (all_true (map (truth_at row) l.members)) ≡ true
    → is_inside l.found (value_at row l.column) ≡ true
