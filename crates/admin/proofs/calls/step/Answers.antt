use Rattle.admin.specs.AdminAnswers as told
use Rattle.admin.proofs.Outcomes.{move_refused}
use Rattle.admin.proofs.calls.step.Goals as goal

pub returns-in-Ok-clause-moved : goal.returns-in-Ok-clause-moved
returns-in-Ok-clause-moved g c = let e = c.in-Ok.ensures in told.done e.was e.moved e.once c.step.ensures.same

pub returns-in-Err-clause-moved : goal.returns-in-Err-clause-moved
returns-in-Err-clause-moved g c = let e = c.in-Err.ensures in move_refused _ _ _ _ _ _ c.in-Err.fault e.refused e.nothing e.full e.same
