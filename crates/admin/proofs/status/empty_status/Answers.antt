use Rattle.std.proofs.Common.{refl, sym, subst, ◌∙◌}
use Rattle.std.specs.Prelude.{codes, List, ℕ}
use Rattle.admin.specs.declared.reply.AdminReply.TheVariants.{Status}
use Rattle.admin.specs.AdminAnswers.{IsAnsweredWithout, status}
use Rattle.admin.proofs.Lines.{without_memory}
use Rattle.admin.proofs.status.empty_status.Goals as goal

pub returns-in-Ok : goal.returns-in-Ok
returns-in-Ok c =
    subst (λ (text : List ℕ). IsAnsweredWithout (codes "status") (Status text)) (sym (c.from_vec.ensures ∙ c.in-Ok.ensures.ok)) (status refl)

pub returns-in-Err : goal.returns-in-Err
returns-in-Err c = without_memory (codes "status") _ refl
