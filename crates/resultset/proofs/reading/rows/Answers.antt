use Rattle.std.proofs.Common.{◌∙◌}
use Rattle.std.proofs.lemmas.Result.{err_from_is_err_and}
use Rattle.resultset.specs.Encoding.{RowFits, row_payload}
use Rattle.resultset.proofs.Lists.{reads_next, no_next, all_push}
use Rattle.resultset.proofs.reading.rows.Goals as goal

pub returns-in_err-row-clause-again : goal.returns-in_err-row-clause-again
returns-in_err-row-clause-again c =
    let p = err_from_is_err_and c.from_residual.result c.from_residual.ensures.1 in
    rw (p.1, p.2)
    (no_next (RowFits c.args.columns.now) row_payload c.args.payloads.now c.loop-payload.payload-index c.loop-payload.rows _ c.payload-item.result c.loop-payload-test.true c.payload-item.is
    (λ y fits e. c.in_err-row.ensures.again y fits (c.as_slice.ensures ∙ e)))

pub loop-payload-preserved : goal.loop-payload-preserved
loop-payload-preserved c =
    rw c.in_ok-push.ensures.ok (
      reads_next (RowFits c.args.columns.now) row_payload c.args.payloads.now c.loop-payload.payload-index c.loop-payload.rows _ c.payload-item.result c.loop-payload.invariant.0 c.loop-payload-test.true c.payload-item.is
          (λ y fits e. c.in_ok-row.ensures.again y fits (c.as_slice.ensures ∙ e)),
      all_push (RowFits c.args.columns.now) c.loop-payload.rows _ c.loop-payload.invariant.1 c.in_ok-row.ensures.fits,
    )
