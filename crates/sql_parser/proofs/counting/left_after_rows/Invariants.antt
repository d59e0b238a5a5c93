use Rattle.std.proofs.Common.{◌≡◌, ◌-◌, drop, length}
use Rattle.std.specs.Prelude.{sum_by}
use Rattle.sql_parser.proofs.counting.left_after_rows.Given as goal

abbrev pub invariant-loop-row : goal.invariant-loop-row
invariant-loop-row l = l.left - sum_by length (drop l.row-index l.rows) ≡ l.fn.left - sum_by length l.rows
