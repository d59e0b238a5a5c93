use Rattle.admin.specs.AdminAnswers as told
use Rattle.admin.proofs.Outcomes.{switch_refused}
use Rattle.admin.proofs.calls.switch.Goals as goal

pub returns-in-Ok-clause-cut_over : goal.returns-in-Ok-clause-cut_over
returns-in-Ok-clause-cut_over g c = let e = c.in-Ok.ensures in told.done e.was e.through e.steps

pub returns-in-Err-clause-cut_over : goal.returns-in-Err-clause-cut_over
returns-in-Err-clause-cut_over g c = switch_refused _ _ _ _ _ _ c.in-Err.fault c.in-Err.ensures.refused
