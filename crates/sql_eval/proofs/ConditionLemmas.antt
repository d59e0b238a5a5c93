-- The truth of each form of condition.
use Rattle.std.proofs.Common.{◌≡◌, ℕ, List, map, sym, ap, ◌∙◌}
use Rattle.vt_value.specs.declared.value.Value.{Value}
use Rattle.vt_value.specs.declared.value.Truth.{Truth}
use Rattle.vt_value.specs.declared.value.Comparison.{Comparison}
use Rattle.vt_value.specs.Values.{Row, truth_not, all_true, any_true, truth_of, is_null, compare, in_list}
use Rattle.sql_tree.specs.declared.Operand.{Operand}
use Rattle.sql_tree.specs.declared.Condition.{Condition, Compare, In, IsNull, Not, And, Or, fold-roll-Condition}
use Rattle.sql_tree.specs.declared.Condition.TheVariants.{rolls-Compare, rolls-In, rolls-IsNull, rolls-Not, rolls-And, rolls-Or}
use Rattle.sql_eval.specs.Conditions.{truth_at, node_truth, operand_value}

pub truth_at-Compare : (row : Row) (op : Comparison) (a b : Operand ℕ) →
    truth_at row (Compare op a b) ≡ compare op (operand_value row a) (operand_value row b)
truth_at-Compare row op a b = ap (truth_at row) (sym (rolls-Compare op a b)) ∙ fold-roll-Condition ℕ Truth (node_truth row) _

pub truth_at-In : (row : Row) (a : Operand ℕ) (members : List Value) → truth_at row (In a members) ≡ in_list (operand_value row a) members
truth_at-In row a members = ap (truth_at row) (sym (rolls-In a members)) ∙ fold-roll-Condition ℕ Truth (node_truth row) _

pub truth_at-IsNull : (row : Row) (a : Operand ℕ) → truth_at row (IsNull a) ≡ truth_of (is_null (operand_value row a))
truth_at-IsNull row a = ap (truth_at row) (sym (rolls-IsNull a)) ∙ fold-roll-Condition ℕ Truth (node_truth row) _

pub truth_at-Not : (row : Row) (c : Condition ℕ) → truth_at row (Not c) ≡ truth_not (truth_at row c)
truth_at-Not row c = ap (truth_at row) (sym (rolls-Not c)) ∙ fold-roll-Condition ℕ Truth (node_truth row) _

pub truth_at-And : (row : Row) (cs : List (Condition ℕ)) → truth_at row (And cs) ≡ all_true (map (truth_at row) cs)
truth_at-And row cs = ap (truth_at row) (sym (rolls-And cs)) ∙ fold-roll-Condition ℕ Truth (node_truth row) _

pub truth_at-Or : (row : Row) (cs : List (Condition ℕ)) → truth_at row (Or cs) ≡ any_true (map (truth_at row) cs)
truth_at-Or row cs = ap (truth_at row) (sym (rolls-Or cs)) ∙ fold-roll-Condition ℕ Truth (node_truth row) _
