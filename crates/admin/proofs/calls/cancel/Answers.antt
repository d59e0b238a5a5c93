use Rattle.admin.specs.AdminAnswers as told
use Rattle.admin.proofs.Outcomes.{cancel_refused}
use Rattle.admin.proofs.calls.cancel.Goals as goal

pub returns-in-Ok-clause-cancelled : goal.returns-in-Ok-clause-cancelled
returns-in-Ok-clause-cancelled g c = let e = c.in-Ok.ensures in told.done e.was e.none e.serve e.thawed

pub returns-in-Err-clause-cancelled : goal.returns-in-Err-clause-cancelled
returns-in-Err-clause-cancelled g c = let e = c.in-Err.ensures.refused in cancel_refused _ _ _ _ _ c.in-Err.fault e.0 e.1 e.2 e.3
