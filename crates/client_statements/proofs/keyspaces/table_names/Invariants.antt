use Rattle.std.proofs.Common.{◌≡◌, ◌++◌, drop}
use Rattle.std.specs.Prelude.{filter}
use Rattle.client_statements.specs.Answers.{fits_pattern, names_in}
use Rattle.client_statements.proofs.keyspaces.table_names.Given as goal

abbrev pub invariant-loop-table : goal.invariant-loop-table
invariant-loop-table l =
    l.names.items ++ filter (fits_pattern l.like) (names_in l.ordinal (drop l.table-index l.tables)) ≡ filter (fits_pattern l.like) (names_in l.ordinal l.tables)
