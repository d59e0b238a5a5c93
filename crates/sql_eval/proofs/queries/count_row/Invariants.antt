use Rattle.std.proofs.Common.{◌≡◌, take}
use Rattle.sql_eval.specs.inner.Parts.{counted_row}
use Rattle.sql_eval.proofs.queries.count_row.Given as goal

abbrev pub invariant-loop : goal.invariant-loop
invariant-loop l = l.row ≡ counted_row (take l.index l.aggregates) l.count
