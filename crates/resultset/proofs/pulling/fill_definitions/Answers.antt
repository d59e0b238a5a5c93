use Rattle.resultset.specs.Encoding.{definition_payload}
use Rattle.resultset.proofs.Pulls.{writes_next}
use Rattle.resultset.proofs.pulling.fill_definitions.Goals as goal

pub loop-column-preserved : goal.loop-column-preserved
loop-column-preserved c =
    writes_next definition_payload c.args.columns.now c.loop-column.column-index c.column-item.result _ _ _ _ _ _
    c.loop-column.invariant c.loop-column-test.true c.column-item.is c.in_ok-next.ensures.ok c.in_ok-next.ensures.next
