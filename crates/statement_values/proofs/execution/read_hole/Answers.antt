use Rattle.std.proofs.Common.{[], refl}
use Rattle.statement_values.specs.Executions as e
use Rattle.statement_values.proofs.execution.read_hole.Goals as goal

pub returns-in_ok-copied-in-Some-clause-found : goal.returns-in_ok-copied-in-Some-clause-found
returns-in_ok-copied-in-Some-clause-found c = ([], refl, rw (c.in-Some.is, c.in_ok-copied-in-Some.ensures, c.as_slice.ensures) e.long)

pub returns-in-None-clause-only : goal.returns-in-None-clause-only
returns-in-None-clause-only c = λ front rest v h is. c.read_sent.ensures.only front rest v (rw c.in-None.is at h) is
