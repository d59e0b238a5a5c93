use Rattle.session.proofs.conversation.columns.push_aggregate.Goals as goal

pub returns-clause-ok : goal.returns-clause-ok
returns-clause-ok c = (c.in_ok-define_aggregate_of.field-0, c.in_ok-define_aggregate_of.ensures.ok, c.push_reserved.ensures.items)
