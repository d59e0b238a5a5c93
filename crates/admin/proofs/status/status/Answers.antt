use Rattle.std.proofs.Common.{refl}
use Rattle.admin.specs.AdminAnswers.{told}
use Rattle.admin.proofs.Lines.{status_memory}
use Rattle.admin.proofs.status.status.Goals as goal

pub returns-in-Ok : goal.returns-in-Ok
returns-in-Ok g c = told c.in-Ok.ensures.ok

pub returns-in-Err : goal.returns-in-Err
returns-in-Err g c = status_memory _ _ refl
