use Rattle.std.proofs.Common.{rules}
use Rattle.session.specs.conversation.Columns.{DefinesAt}
use Rattle.session.proofs.conversation.columns.push_at.Goals as goal

pub returns-in-Some-clause-pushed : goal.returns-in-Some-clause-pushed
returns-in-Some-clause-pushed c =
    let defined : DefinesAt c.args.schema.now c.args.table.now c.args.ordinal c.define.result = search rules in
    (c.define.result, defined, c.push_reserved.ensures.items)

pub returns-in-None-clause-pushed : goal.returns-in-None-clause-pushed
returns-in-None-clause-pushed c =
    let pushed = c.push_missing.ensures.pushed in
    let defined : DefinesAt c.args.schema.now c.args.table.now c.args.ordinal pushed.0 = search rules in
    (pushed.0, defined, pushed.2)
