use Rattle.session.proofs.conversation.ColumnLemmas.{defines_other}
use Rattle.session.proofs.conversation.columns.push_item.Goals as goal

pub returns-in-Column-clause-ok : goal.returns-in-Column-clause-ok
returns-in-Column-clause-ok c = (c.push_shown.ensures.pushed.0, rw c.in-Column.is c.push_shown.ensures.pushed.1, c.push_shown.ensures.pushed.2)

pub returns-in_ok-push_aggregate-in_default-clause-ok : goal.returns-in_ok-push_aggregate-in_default-clause-ok
returns-in_ok-push_aggregate-in_default-clause-ok c =
    let pushed = c.in_ok-push_aggregate-in_default.ensures.ok in
    (pushed.0, defines_other _ _ _ _ _ _ c.in_default.not-Column pushed.1, pushed.2)
