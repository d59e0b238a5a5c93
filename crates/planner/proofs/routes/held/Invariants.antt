use Rattle.std.proofs.Common.{◌≡◌, take, filter}
use Rattle.planner.specs.Routes.{is_held}
use Rattle.planner.proofs.routes.held.Given as goal

abbrev pub invariant-loop-value : goal.invariant-loop-value
invariant-loop-value l = l.list ≡ filter (is_held l.kind) (take l.value-index l.values)
