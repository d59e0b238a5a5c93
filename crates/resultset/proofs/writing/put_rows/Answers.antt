use Rattle.std.proofs.Common.{◌≡◌, ◌++◌, ap, ◌∙◌}
use Rattle.resultset.specs.Encoding.{row_payload}
use Rattle.resultset.proofs.Payloads.{puts_next, front_stays, on_err}
use Rattle.resultset.proofs.writing.put_rows.Goals as goal

pub returns-in_err-put_row-clause-err : goal.returns-in_err-put_row-clause-err
returns-in_err-put_row-clause-err c = on_err _ (front_stays _ _ _ c.loop-row.invariant.whole)

pub returns-in_err-next-clause-err : goal.returns-in_err-next-clause-err
returns-in_err-next-clause-err c = on_err _ (front_stays _ _ _ (c.in_err-next.ensures.err ∙ c.loop-row.invariant.whole))

pub loop-row-preserved : goal.loop-row-preserved
loop-row-preserved c =
    let payload : c.as_slice-in-loop-row.result.now ≡ row_payload c.row-item.result =
    c.as_slice-in-loop-row.ensures ∙ c.in_ok-put_row.ensures.ok ∙ ap (λ l. l ++ row_payload c.as_slice.result.now) c.clear.ensures.items ∙ ap row_payload c.as_slice.ensures
    in
    puts_next row_payload c.args.rows.now c.loop-row.row-index c.row-item.result c.as_slice-in-loop-row.result.now _ _ _ _ _ _ c.loop-row.invariant c.loop-row-test.true c.row-item.is payload
    c.in_ok-next.ensures.ok c.in_ok-next.ensures.next c.put_payload.ensures.capacity
