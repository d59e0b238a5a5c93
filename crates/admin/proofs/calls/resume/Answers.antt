use Rattle.admin.specs.AdminAnswers as told
use Rattle.admin.proofs.Outcomes.{resume_refused}
use Rattle.admin.proofs.calls.resume.Goals as goal

pub returns-in-Ok-clause-resumed : goal.returns-in-Ok-clause-resumed
returns-in-Ok-clause-resumed g c = let e = c.in-Ok.ensures in told.done _ e.was e.resumed

pub returns-in-Err-clause-resumed : goal.returns-in-Err-clause-resumed
returns-in-Err-clause-resumed g c = let e = c.in-Err.ensures.refused in resume_refused _ _ _ _ _ c.in-Err.fault e.0 e.1 e.2 e.3
