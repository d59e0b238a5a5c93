use Rattle.std.proofs.Common.{◌∙◌}
use Rattle.planner.proofs.Rights.{rights}
use Rattle.planner.proofs.Skips.{skips}
use Rattle.planner.specs.Routes.{table_at}
use Rattle.planner.proofs.SortedPieces.{in_order}
use Rattle.planner.proofs.planning.plan.Goals as goal

pub returns-clause-right : goal.returns-clause-right
returns-clause-right c =
    rights c.args.schema.now c.args.query _
    (λ i. record { route = c.in_ok-route.ensures.ok i; piece = c.in_ok-push.ensures.ok i; finish = c.in_ok-finish.ensures.ok i; items = (c.in_ok-items.ensures.ok ∙ c.as_slice.ensures) i; qualified = (c.in_ok-qualified.ensures ∙ c.as_slice-2.ensures) i })

pub returns-clause-skips : goal.returns-clause-skips
returns-clause-skips c =
    skips c.args.schema.now c.args.query (record { route = c.in_ok-route.route; piece = c.push.new.query; finish = c.in_ok-finish.finish; items = c.in_ok-items.items; qualified = c.in_ok-qualified.qualified })
    c.in_ok-route.ensures.ok

pub returns-clause-order : goal.returns-clause-order
returns-clause-order c =
    in_order (table_at c.args.schema.now c.args.query.table) c.args.query (record { route = c.in_ok-route.route; piece = c.push.new.query; finish = c.in_ok-finish.finish; items = c.in_ok-items.items; qualified = c.in_ok-qualified.qualified })
    (λ i. record { route = c.in_ok-route.ensures.ok i; piece = c.in_ok-push.ensures.ok i; finish = c.in_ok-finish.ensures.ok i; items = (c.in_ok-items.ensures.ok ∙ c.as_slice.ensures) i; qualified = (c.in_ok-qualified.ensures ∙ c.as_slice-2.ensures) i })
