use Rattle.std.proofs.Common.{inl, inr, refl}
use Rattle.session.proofs.conversation.RepliesLemmas.{shows}
use Rattle.session.proofs.conversation.texts.shown_rows.Goals as goal

pub returns-in-Ok : goal.returns-in-Ok
returns-in-Ok c = inl (shows _ _ c.in-Ok.set c.in-Ok.ensures.columns c.in-Ok.ensures.rows)

pub returns-in-Err : goal.returns-in-Err
returns-in-Err c = inr refl
