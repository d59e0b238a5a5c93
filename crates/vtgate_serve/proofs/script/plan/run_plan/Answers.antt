use Rattle.std.proofs.Common.{sym, ◌∙◌}
use Rattle.vtgate_serve.proofs.script.plan.run_plan.Goals as goal

pub returns-in-Err-clause-cause : goal.returns-in-Err-clause-cause
returns-in-Err-clause-cause g c = λ two. c.in-Err.ensures.fault (sym c.refuse_plainly.ensures.status ∙ two)
