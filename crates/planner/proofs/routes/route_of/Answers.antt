use Rattle.std.proofs.Common.{◌∙◌, ap}
use Rattle.std.proofs.lemmas.Result.{IfOk-weaker}
use Rattle.planner.specs.declared.keys.Keys.{Keys}
use Rattle.planner.specs.Routes.{sharded_route}
use Rattle.planner.proofs.routes.route_of.Goals as goal

pub returns-in-Some-filter : goal.returns-in-Some-filter
returns-in-Some-filter c =
    record {
      ok = rw (c.in-Some.is, c.in-Some-filter.is)
          (IfOk-weaker c.sharded_route.result _ _ (λ route e. e ∙ ap (λ (k : Keys). sharded_route k c.in-Some-filter.condition) c.keys_on-keys.ensures) c.sharded_route.ensures.ok);
    }
