use Rattle.std.proofs.Common.{◌∙◌}
use Rattle.resultset.proofs.Cuts.{with_last}
use Rattle.resultset.proofs.chunks.Filling.into_chunks.Goals as goal

pub returns : goal.returns
returns c = record { ok = with_last _ _ _ _ c.in_ok-push.ensures.items (c.from_vec.ensures ∙ c.in_ok-into_vec.ensures.ok) ∙ c.self.view_is }
