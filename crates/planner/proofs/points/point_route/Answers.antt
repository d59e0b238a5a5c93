use Rattle.std.proofs.Common.{◌≡◌, ◌∙◌, ap}
use Rattle.keyrange.specs.declared.KeyRange.{KeyRange}
use Rattle.planner.specs.declared.keys.Keys.{Keys}
use Rattle.planner.specs.declared.routes.Route.TheVariants.{EqualUnique}
use Rattle.planner.specs.Routes.{sharded_route, route_of}
use Rattle.planner.proofs.PlainAnswers.{point_piece}
use Rattle.planner.proofs.points.point_route.Goals as goal

pub returns-in-Some-2-clause-ok : goal.returns-in-Some-2-clause-ok
returns-in-Some-2-clause-ok c =
    let found = rw c.in-Some-2.is at c.in_ok-value.ensures.ok in
    rw (c.in-Some.is, c.in-Some-filter.is) (found ∙ ap (λ (k : Keys). sharded_route k c.in-Some-filter.condition) c.keys_on.ensures)

pub returns-in-Some-2-clause-piece : goal.returns-in-Some-2-clause-piece
returns-in-Some-2-clause-piece c = λ range.
    let found = rw c.in-Some-2.is at c.in_ok-value.ensures.ok in
    let is : EqualUnique c.in-Some-2.value ≡ route_of c.args.table.now c.args.query.now.join c.args.query.now.filter =
    rw (c.in-Some.is, c.in-Some-filter.is) (found ∙ ap (λ (k : Keys). sharded_route k c.in-Some-filter.condition) c.keys_on.ensures) in
    point_piece c.args.table.now c.args.query.now c.in-Some-2.value range c.requires is
