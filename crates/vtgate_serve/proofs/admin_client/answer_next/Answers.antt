use Rattle.std.proofs.Common.{[]}
use Rattle.std.proofs.KnownBytes.{Consumes-nil, Consumes-kept}
use Rattle.vtgate_serve.proofs.Conversing.{nothing_done, on_err}
use Rattle.vtgate_serve.proofs.admin_client.answer_next.Goals as goal

pub returns-in_default-clause-broke : goal.returns-in_default-clause-broke
returns-in_default-clause-broke g c =
    ([], Consumes-kept _ _ _ [] (Consumes-nil _) c.in_default.ensures.bytes, nothing_done g.W.World.opening g.W.World.limits _ _ _)

pub returns-in_err-answer_piece-clause-broke : goal.returns-in_err-answer_piece-clause-broke
returns-in_err-answer_piece-clause-broke g c =
    on_err c.from_residual.result _ (_, c.in-Ok.ensures.bytes.0, c.in_err-answer_piece.ensures.broke)
