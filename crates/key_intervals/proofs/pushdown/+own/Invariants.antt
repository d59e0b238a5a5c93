use Rattle.std.proofs.Common.{◌≡◌, ◌++◌, List, map, true}
use Rattle.vt_value.specs.declared.value.Value.{Value as V}
use Rattle.vt_value.specs.Values.{is_true, all_true}
use Rattle.sql_eval.specs.Sources.{padded_row}
use Rattle.sql_eval.specs.Conditions.{truth_at}
use Rattle.key_intervals.specs.Conjuncts.{passes}
use Rattle.key_intervals.proofs.pushdown.+own.Given as goal

abbrev pub invariant-push_own_of_each-loop-member : goal.invariant-push_own_of_each-loop-member
invariant-push_own_of_each-loop-member l =
    (first second : List V) → passes l.fn.own.items first ≡ true → is_true (all_true (map (truth_at (padded_row l.width first ++ second)) l.members)) ≡ true
    → passes l.own.items first ≡ true
