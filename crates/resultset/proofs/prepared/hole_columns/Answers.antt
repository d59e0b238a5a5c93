use Rattle.resultset.proofs.PreparedPulls.{holes_pushed, holes_bound}
use Rattle.resultset.proofs.prepared.hole_columns.Goals as goal

pub loop-columns-preserved : goal.loop-columns-preserved
loop-columns-preserved c = (
  holes_pushed c.loop-columns.columns c.push.new.self c.hole_column.result c.loop-columns.invariant.0 c.hole_column.ensures c.in_ok-push.ensures.ok,
  holes_bound c.loop-columns.columns c.push.new.self c.hole_column.result c.args.holes (rw (c.len.ensures, c.from.ensures) at c.loop-columns-test.true) c.in_ok-push.ensures.ok,
)
