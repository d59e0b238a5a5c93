-- A column may stand after the name of its table in a SELECT alone.
use Rattle.std.specs.Prelude.{Bool, false, ◌||◌, is_some, Option, Some, None}
use Rattle.std.specs.List.{list_any}
use Rattle.sql_tree.specs.declared.ColumnName.{ColumnName}
use Rattle.sql_tree.specs.declared.Operand.{Operand}
use Rattle.sql_tree.specs.declared.Operand.TheVariants as operand
use Rattle.sql_tree.specs.declared.Condition.{Condition, Condition-F, fold-Condition}
use Rattle.sql_tree.specs.declared.Condition.TheOpen.{Compare, In, IsNull, Not, And, Or}
use Rattle.sql_tree.specs.declared.Statement.{Statement}
use Rattle.sql_tree.specs.declared.Statement.TheVariants.{Update, Delete}

abbrev pub operand_is_qualified : Operand ColumnName → Bool
operand_is_qualified (operand.Column c) = is_some c.table
operand_is_qualified (operand.Literal v) = false

abbrev pub node_is_qualified : Condition-F ColumnName Bool → Bool
node_is_qualified (Compare op a b) = operand_is_qualified a || operand_is_qualified b
node_is_qualified (In a members) = operand_is_qualified a
node_is_qualified (IsNull a) = operand_is_qualified a
node_is_qualified (Not b) = b
node_is_qualified (And bs) = list_any (λ b. b) bs
node_is_qualified (Or bs) = list_any (λ b. b) bs

abbrev pub condition_is_qualified : Condition ColumnName → Bool
condition_is_qualified = fold-Condition ColumnName Bool node_is_qualified

abbrev pub filter_is_qualified : Option (Condition ColumnName) → Bool
filter_is_qualified None = false
filter_is_qualified (Some c) = condition_is_qualified c

-- a condition of an UPDATE or a DELETE has a column after the name of a table
abbrev pub qualifies_outside_select : Statement → Bool
qualifies_outside_select (Update s) = filter_is_qualified s.filter
qualifies_outside_select (Delete s) = filter_is_qualified s.filter
qualifies_outside_select _ = false
