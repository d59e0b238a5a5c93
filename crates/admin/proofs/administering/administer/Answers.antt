use Rattle.admin.proofs.RouterHomes.{at_home}
use Rattle.admin.proofs.administering.administer.Goals as goal

pub answer-requires-clause-home : goal.answer-requires-clause-home
answer-requires-clause-home g c = at_home (λ c. c.serving.now) _ _ _ c.requires.home c.workflow_context.ensures.some
