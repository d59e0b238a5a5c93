-- Several conditions.
use Rattle.std.specs.Prelude.{ℕ, Bool, List}
use Rattle.std.specs.Borrow.{Bor}
use Rattle.std.specs.List.{list_all}
use Rattle.vt_value.specs.Values.{Row, is_true}
use Rattle.sql_tree.specs.declared.Condition.{Condition}
use Rattle.sql_eval.specs.Conditions.{truth_at}

-- each of the conditions is true at the row
abbrev pub passes : List (Bor (Condition ℕ)) → Row → Bool
passes own row = list_all (λ c. is_true (truth_at row c.now)) own
