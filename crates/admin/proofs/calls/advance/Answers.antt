use Rattle.admin.specs.AdminAnswers as told
use Rattle.admin.proofs.Outcomes.{advance_refused}
use Rattle.admin.proofs.calls.advance.Goals as goal

pub returns-in-Ok-clause-advanced : goal.returns-in-Ok-clause-advanced
returns-in-Ok-clause-advanced g c = let e = c.in-Ok.ensures in told.done e.was e.switched e.once e.ready

pub returns-in-Err-clause-advanced : goal.returns-in-Err-clause-advanced
returns-in-Err-clause-advanced g c = advance_refused _ _ _ _ _ _ c.in-Err.fault c.in-Err.ensures.refused
