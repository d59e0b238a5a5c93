use Rattle.session.proofs.conversation.ColumnLemmas.{owner_first, owner_second}
use Rattle.session.proofs.conversation.columns.push_shown.Goals as goal

pub returns-in-None-clause-pushed : goal.returns-in-None-clause-pushed
returns-in-None-clause-pushed c = rw c.in-None.is c.push_of.ensures.pushed

pub returns-then-ordinal-join-clause-pushed : goal.returns-then-ordinal-join-clause-pushed
returns-then-ordinal-join-clause-pushed c =
    rw c.in-Some.is (rw (owner_first _ _ c.in-Some.join c.args.ordinal c.if-ordinal-join.true) c.push_of-then-ordinal-join.ensures.pushed)

pub returns-else-ordinal-join-clause-pushed : goal.returns-else-ordinal-join-clause-pushed
returns-else-ordinal-join-clause-pushed c =
    rw c.in-Some.is (rw (owner_second _ _ c.in-Some.join c.args.ordinal c.if-ordinal-join.false) c.push_of-else-ordinal-join.ensures.pushed)
