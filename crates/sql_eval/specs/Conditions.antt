-- The truth of a condition at a row, by SQL's three-valued logic.
use Rattle.std.specs.Prelude.{ℕ, Bool, true, Option, Some, None}
use Rattle.vt_value.specs.declared.value.Value.{Value}
use Rattle.vt_value.specs.declared.value.Truth.{Truth}
use Rattle.vt_value.specs.Values.{Row, value_at, truth_not, all_true, any_true, truth_of, is_true, is_null, compare, in_list}
use Rattle.sql_tree.specs.declared.Operand.{Operand}
use Rattle.sql_tree.specs.declared.Operand.TheVariants.{Column, Literal}
use Rattle.sql_tree.specs.declared.Condition.{Condition, Condition-F, fold-Condition}
use Rattle.sql_tree.specs.declared.Condition.TheOpen.{Compare, In, IsNull, Not, And, Or}

abbrev pub operand_value : Row → Operand ℕ → Value
operand_value row (Column n) = value_at row n
operand_value row (Literal v) = v

-- what a node gives, if each member has given its truth
abbrev pub node_truth : Row → Condition-F ℕ Truth → Truth
node_truth row (Compare op a b) = compare op (operand_value row a) (operand_value row b)
node_truth row (In a members) = in_list (operand_value row a) members
node_truth row (IsNull a) = truth_of (is_null (operand_value row a))
node_truth row (Not t) = truth_not t
node_truth row (And ts) = all_true ts
node_truth row (Or ts) = any_true ts

abbrev pub truth_at : Row → Condition ℕ → Truth
truth_at row c = fold-Condition ℕ Truth (node_truth row) c

-- WHERE keeps a row whose condition is true
abbrev pub is_kept : Option (Condition ℕ) → Row → Bool
is_kept None row = true
is_kept (Some c) row = is_true (truth_at row c)
