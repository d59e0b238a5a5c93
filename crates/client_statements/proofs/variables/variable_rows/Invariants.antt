use Rattle.std.proofs.Common.{◌≡◌, ◌++◌, drop}
use Rattle.client_statements.specs.Answers.{variable_rows}
use Rattle.client_statements.proofs.variables.variable_rows.Given as goal

abbrev pub invariant-loop-variable : goal.invariant-loop-variable
invariant-loop-variable l =
    l.rows ++ variable_rows l.autocommit l.like (drop l.variable-index l.variables) ≡ variable_rows l.autocommit l.like l.variables
