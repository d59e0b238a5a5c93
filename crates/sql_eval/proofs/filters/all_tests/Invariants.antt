use Rattle.std.proofs.Common.{◌≡◌, take}
use Rattle.std.specs.List.{list_all}
use Rattle.vt_value.specs.Values.{Row, is_true}
use Rattle.sql_eval.specs.Conditions.{truth_at}
use Rattle.sql_eval.specs.inner.Tests.{passes}
use Rattle.sql_eval.proofs.filters.all_tests.Given as goal

abbrev pub invariant-loop-member : goal.invariant-loop-member
invariant-loop-member l = (row : Row) → list_all (passes row) l.tests ≡ list_all (λ c. is_true (truth_at row c)) (take l.member-index l.members)
