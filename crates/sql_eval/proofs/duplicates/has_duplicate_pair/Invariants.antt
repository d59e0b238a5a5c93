use Rattle.std.proofs.Common.{◌≡◌, ◌++◌, take, drop}
use Rattle.sql_eval.specs.Writes.{has_duplicate}
use Rattle.sql_eval.proofs.duplicates.has_duplicate_pair.Given as goal

-- what is left to test: the other new rows, against the rows and the new rows before them
abbrev pub invariant-loop-i : goal.invariant-loop-i
invariant-loop-i l = has_duplicate l.table (l.rows ++ take l.i l.new) (drop l.i l.new) ≡ has_duplicate l.table l.rows l.new
