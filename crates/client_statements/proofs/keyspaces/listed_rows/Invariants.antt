use Rattle.std.proofs.Common.{◌≡◌, map, take}
use Rattle.client_statements.specs.Answers.{listed_row}
use Rattle.client_statements.proofs.keyspaces.listed_rows.Given as goal

abbrev pub invariant-loop-name : goal.invariant-loop-name
invariant-loop-name l = l.rows ≡ map (listed_row l.full) (take l.name-index l.names)
