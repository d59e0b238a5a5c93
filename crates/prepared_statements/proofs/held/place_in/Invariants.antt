use Rattle.std.proofs.Common.{drop}
use Rattle.prepared_statements.proofs.Places.{Passed}
use Rattle.prepared_statements.proofs.held.place_in.Given as goal

-- no statement so far has the number
abbrev pub invariant-loop-n : goal.invariant-loop-n
invariant-loop-n l = Passed l.fn.number l.fn.statements (drop l.n l.fn.statements) l.n
