use Rattle.admin.specs.AdminAnswers as told
use Rattle.admin.proofs.Outcomes.{complete_refused}
use Rattle.admin.proofs.calls.complete.Goals as goal

pub returns-in-Ok-clause-completed : goal.returns-in-Ok-clause-completed
returns-in-Ok-clause-completed g c = let e = c.in-Ok.ensures in told.done e.was e.none e.out e.looked

pub returns-in-Err-clause-completed : goal.returns-in-Err-clause-completed
returns-in-Err-clause-completed g c = let e = c.in-Err.ensures.refused in complete_refused _ _ _ _ _ c.in-Err.fault e.0 e.1 e.2 e.3
