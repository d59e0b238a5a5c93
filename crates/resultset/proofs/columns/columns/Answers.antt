use Rattle.std.proofs.Common.{◌∙◌}
use Rattle.std.proofs.lemmas.Result.{err_from_is_err_and}
use Rattle.resultset.specs.Encoding.{definition_payload, IsByteLong}
use Rattle.resultset.proofs.Lists.{reads_next, no_next}
use Rattle.resultset.proofs.columns.columns.Goals as goal

pub returns-in_err-column-clause-again : goal.returns-in_err-column-clause-again
returns-in_err-column-clause-again c =
    let p = err_from_is_err_and c.from_residual.result c.from_residual.ensures.1 in
    rw (p.1, p.2)
    (no_next (λ k. IsByteLong k.kind) definition_payload c.args.payloads.now c.loop-payload.payload-index c.loop-payload.columns _ c.payload-item.result c.loop-payload-test.true c.payload-item.is
    (λ y long e. c.in_err-column.ensures y long (c.as_slice.ensures ∙ e)))

pub loop-payload-preserved : goal.loop-payload-preserved
loop-payload-preserved c =
    rw c.in_ok-push.ensures.ok
    (reads_next (λ k. IsByteLong k.kind) definition_payload c.args.payloads.now c.loop-payload.payload-index c.loop-payload.columns _ c.payload-item.result c.loop-payload.invariant c.loop-payload-test.true c.payload-item.is
    (λ y long e. c.in_ok-column.ensures y long (c.as_slice.ensures ∙ e)))
