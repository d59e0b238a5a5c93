use Rattle.std.proofs.Common.{◌≡◌, ◌++◌, ap, ◌∙◌}
use Rattle.resultset.specs.Encoding.{definition_payload}
use Rattle.resultset.proofs.Payloads.{puts_next, front_stays, on_err}
use Rattle.resultset.proofs.writing.put_definitions.Goals as goal

pub returns-in_err-put_definition-clause-err : goal.returns-in_err-put_definition-clause-err
returns-in_err-put_definition-clause-err c = on_err _ (front_stays _ _ _ c.loop-column.invariant.whole)

pub returns-in_err-next-clause-err : goal.returns-in_err-next-clause-err
returns-in_err-next-clause-err c = on_err _ (front_stays _ _ _ (c.in_err-next.ensures.err ∙ c.loop-column.invariant.whole))

pub loop-column-preserved : goal.loop-column-preserved
loop-column-preserved c =
    let payload : c.as_slice.result.now ≡ definition_payload c.column-item.result =
    c.as_slice.ensures ∙ c.in_ok-put_definition.ensures.ok ∙ ap (λ l. l ++ definition_payload c.column-item.result) c.clear.ensures.items
    in
    puts_next definition_payload c.args.columns.now c.loop-column.column-index c.column-item.result c.as_slice.result.now _ _ _ _ _ _ c.loop-column.invariant c.loop-column-test.true c.column-item.is payload
    c.in_ok-next.ensures.ok c.in_ok-next.ensures.next c.put_payload.ensures.capacity
