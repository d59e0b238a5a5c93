use Rattle.std.proofs.Common.{◌≡◌, drop}
use Rattle.sql_eval.specs.Writes.{assigned}
use Rattle.sql_eval.proofs.writes.assigned.Given as goal

abbrev pub invariant-loop-assignment : goal.invariant-loop-assignment
invariant-loop-assignment l = assigned (drop l.assignment-index l.assignments) l.new ≡ assigned l.assignments l.row
