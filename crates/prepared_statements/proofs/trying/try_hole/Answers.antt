use Rattle.std.proofs.Common.{◌∙◌, sym, ap}
use Rattle.prepared_statements.specs.Texts.{counts_after}
use Rattle.prepared_statements.specs.inner.Cutting.{literal_of}
use Rattle.prepared_statements.proofs.Tryings.{tried_count, tried_literal}
use Rattle.prepared_statements.proofs.trying.try_hole.Goals as goal

pub returns-then-counts_after-clause-found : goal.returns-then-counts_after-clause-found
returns-then-counts_after-clause-found c =
    tried_count (literal_of c.args.tried) c.args.piece.now c.in_ok-tokens.tokens.items c.in_ok-tokens.ensures.found
    (ap counts_after (sym c.as_slice.ensures.value) ∙ sym c.counts_after.ensures ∙ c.if-counts_after.true)

pub returns-clause-found : goal.returns-clause-found
returns-clause-found c =
    tried_literal (literal_of c.args.tried) c.args.piece.now c.in_ok-tokens.tokens.items c.literal_of.result c.in_ok-tokens.ensures.found
    (ap counts_after (sym c.as_slice.ensures.value) ∙ sym c.counts_after.ensures ∙ c.if-counts_after.false) c.literal_of.ensures
