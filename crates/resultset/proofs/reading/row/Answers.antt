use Rattle.std.proofs.Common.{arith}
use Rattle.std.proofs.lemmas.Result.{err_from_is_err_and}
use Rattle.resultset.proofs.RowsAgain.{row_next, no_value, row_all}
use Rattle.resultset.proofs.reading.row.Goals as goal

pub returns-in_err-value-clause-again : goal.returns-in_err-value-clause-again
returns-in_err-value-clause-again c =
    let p = err_from_is_err_and c.from_residual.result c.from_residual.ensures.1 in
    rw (p.1, p.2)
    (no_value c.args.columns.now c.args.payload.now c.loop-column.column-index c.loop-column.rest.now c.loop-column.row c.column-item.result _ c.loop-column.invariant c.loop-column-test.true c.column-item.is
    c.in_err-value.ensures.again)

pub loop-column-preserved : goal.loop-column-preserved
loop-column-preserved c =
    rw c.in_ok-push.ensures.ok
    (row_next c.args.columns.now c.args.payload.now c.loop-column.column-index c.loop-column.rest.now c.in_ok-value.after.now c.loop-column.row c.column-item.result c.in_ok-value.value
    c.loop-column.invariant c.loop-column-test.true c.column-item.is c.in_ok-value.ensures.fits c.in_ok-value.ensures.again)

pub returns : goal.returns
returns c =
    let all = row_all c.args.columns.now c.args.payload.now c.loop-column.column-index c.loop-column.rest.now c.loop-column.row c.loop-column.invariant (omega arith) in
    record { fits = all.0; again = all.1 }
