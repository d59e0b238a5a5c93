use Rattle.std.proofs.Common.{inl}
use Rattle.session.specs.conversation.Means as o
use Rattle.session.proofs.conversation.RepliesLemmas.{shown_or_full}
use Rattle.session.proofs.conversation.texts.shown.Goals as goal

pub returns-in-Count : goal.returns-in-Count
returns-in-Count c = rw c.in-Count.is (inl o.count)

pub returns-in-Rows : goal.returns-in-Rows
returns-in-Rows c = rw c.in-Rows.is (shown_or_full _ c.in-Rows.selected _ c.shown_rows.ensures)
