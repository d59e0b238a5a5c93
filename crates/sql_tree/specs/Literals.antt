-- How many literals a statement has.
use Rattle.std.specs.Prelude.{ℕ, ◌+◌, List, length, sum, sum_by, Option, Some, None}
use Rattle.sql_tree.specs.declared.ColumnName.{ColumnName}
use Rattle.sql_tree.specs.declared.Operand.{Operand}
use Rattle.sql_tree.specs.declared.Operand.TheVariants as operand
use Rattle.sql_tree.specs.declared.Condition.{Condition, Condition-F, fold-Condition}
use Rattle.sql_tree.specs.declared.Condition.TheOpen.{Compare, In, IsNull, Not, And, Or}
use Rattle.sql_tree.specs.declared.Statement.{Statement}
use Rattle.sql_tree.specs.declared.Statement.TheVariants.{Select, Insert, Update, Delete, Begin, Commit, Rollback, SetNames}

abbrev pub Name : Type 0
Name = List ℕ

abbrev pub operand_literals : Operand ColumnName → ℕ
operand_literals (operand.Column c) = 0
operand_literals (operand.Literal v) = 1

-- those of a node, if each member has given its own
abbrev pub node_literals : Condition-F ColumnName ℕ → ℕ
node_literals (Compare op a b) = operand_literals a + operand_literals b
node_literals (In a members) = operand_literals a + length members
node_literals (IsNull a) = operand_literals a
node_literals (Not n) = n
node_literals (And ns) = sum ns
node_literals (Or ns) = sum ns

abbrev pub condition_literals : Condition ColumnName → ℕ
condition_literals = fold-Condition ColumnName ℕ node_literals

abbrev pub filter_literals : Option (Condition ColumnName) → ℕ
filter_literals None = 0
filter_literals (Some c) = condition_literals c

-- LIMIT and OFFSET have numbers, and no literals
abbrev pub literals_of : Statement → ℕ
literals_of (Select s) = filter_literals s.filter
literals_of (Insert s) = sum_by length s.rows
literals_of (Update s) = length s.assignments + filter_literals s.filter
literals_of (Delete s) = filter_literals s.filter
literals_of Begin = 0
literals_of Commit = 0
literals_of Rollback = 0
literals_of (SetNames c) = 0
