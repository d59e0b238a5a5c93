use Rattle.std.proofs.lemmas.Result.{IfOk-weaker}
use Rattle.status_server.proofs.server.shown_now.Goals as goal

pub returns : goal.returns
returns g c = record { moment = IfOk-weaker c.shown.result _ _ (λ reply holds. (c.in_ok-figures.figures, holds)) c.shown.ensures.answers }
