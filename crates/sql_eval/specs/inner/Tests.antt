-- A condition as tests that a row has to pass, one after the other.
use Rattle.std.specs.Prelude.{◌≡◌, ℕ, Bool, List, Option, IfSome}
use Rattle.std.specs.List.{list_any, list_all}
use Rattle.vt_value.specs.declared.value.Comparison.TheVariants.{Eq}
use Rattle.vt_value.specs.Values.{Row, is_true, compare}
use Rattle.sql_tree.specs.declared.Condition.{Condition}
use Rattle.sql_eval.specs.Conditions.{truth_at, operand_value, is_kept}
use Rattle.sql_eval.specs.declared.filters.Test.{Test}
use Rattle.sql_eval.specs.declared.filters.Test.TheVariants.{Truth, Among}

abbrev pub passes : Row → Test → Bool
passes row (Truth c) = is_true (truth_at row c.now)
passes row (Among a members) = list_any (λ m. is_true (compare Eq (operand_value row a.now) m)) members

-- the condition keeps the rows that pass all of them
abbrev pub AreTestsOf : Option (Condition ℕ) → Option (List Test) → Type 0
AreTestsOf condition tests = IfSome tests (λ list. (row : Row) → is_kept condition row ≡ list_all (passes row) list)
