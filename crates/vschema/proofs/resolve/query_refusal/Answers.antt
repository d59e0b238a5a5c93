use Rattle.std.proofs.Common.{inr, sym, ◌∙◌}
use Rattle.vschema.proofs.Checked.{not_grouped, is_query}
use Rattle.vschema.proofs.resolve.query_refusal.Goals as goal

pub returns-in-Ok-true-clause-some : goal.returns-in-Ok-true-clause-some
returns-in-Ok-true-clause-some c =
    let f = c.args.sources.now in
    let supported = sym c.is_not_supported.ensures ∙ c.if-is_not_supported.false in
    let joined = sym c.query_join_is_refused.ensures ∙ c.if-query_join_is_refused.false in
    inr
    (not_grouped f.ordinal f.second f.scope c.args.select.now c.args.query.now c.requires.known c.requires.query supported joined
    (sym c.in-Ok-true.ensures ∙ c.in-Ok-true.field-0-test))

pub returns-in-Ok-false-clause-none : goal.returns-in-Ok-false-clause-none
returns-in-Ok-false-clause-none c =
    let f = c.args.sources.now in
    let supported = sym c.is_not_supported.ensures ∙ c.if-is_not_supported.false in
    let joined = sym c.query_join_is_refused.ensures ∙ c.if-query_join_is_refused.false in
    is_query f.ordinal f.second f.scope c.args.select.now c.args.query.now c.requires.known c.requires.query supported joined
    (sym c.in-Ok-false.ensures ∙ c.in-Ok-false.field-0-test)
