use Rattle.admin.specs.AdminAnswers as told
use Rattle.admin.proofs.Outcomes.{create_refused}
use Rattle.admin.proofs.calls.create.Goals as goal

pub returns-in-Ok-clause-created : goal.returns-in-Ok-clause-created
returns-in-Ok-clause-created g c = let e = c.in-Ok.ensures in told.done e.was e.begun e.at e.taken e.each

pub returns-in-Err-clause-created : goal.returns-in-Err-clause-created
returns-in-Err-clause-created g c = let e = c.in-Err.ensures in create_refused _ _ _ _ _ c.in-Err.fault _ _ e.refused c.create.ensures.looked e.same
