use Rattle.std.proofs.Common.{◌≡◌, rules, slice_index_or, subst}
use Rattle.vschema.specs.Schema.{no_table}
use Rattle.vschema.specs.declared.schema.Table.{Table}
use Rattle.session.specs.conversation.Columns.{DefinesAt}
use Rattle.session.proofs.conversation.columns.push_of.Goals as goal

pub returns-in-Some-clause-pushed : goal.returns-in-Some-clause-pushed
returns-in-Some-clause-pushed c =
    let pushed = c.push_at.ensures.pushed in
    let is : c.in-Some.table.now ≡ slice_index_or c.args.schema.now.tables c.args.table no_table = search rules in
    (pushed.0, subst (λ (t : Table). DefinesAt c.args.schema.now t c.args.ordinal pushed.0) is pushed.1, pushed.2)

pub returns-in-None-clause-pushed : goal.returns-in-None-clause-pushed
returns-in-None-clause-pushed c =
    let pushed = c.push_missing.ensures.pushed in
    let is : no_table ≡ slice_index_or c.args.schema.now.tables c.args.table no_table = search rules in
    let defined : DefinesAt c.args.schema.now no_table c.args.ordinal pushed.0 = rw c.missing_table.ensures at pushed.1 in
    (pushed.0, subst (λ (t : Table). DefinesAt c.args.schema.now t c.args.ordinal pushed.0) is defined, pushed.2)
