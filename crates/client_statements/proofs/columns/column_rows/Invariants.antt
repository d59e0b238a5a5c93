use Rattle.std.proofs.Common.{◌≡◌, ◌++◌, drop}
use Rattle.client_statements.specs.Answers.{column_rows}
use Rattle.client_statements.proofs.columns.column_rows.Given as goal

abbrev pub invariant-loop-ordinal : goal.invariant-loop-ordinal
invariant-loop-ordinal l =
    l.rows ++ column_rows l.full l.like l.table l.ordinal (drop l.ordinal l.table.columns) ≡ column_rows l.full l.like l.table 0 l.table.columns
