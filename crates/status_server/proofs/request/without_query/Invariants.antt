use Rattle.std.proofs.Common.{◌≡◌, ◌++◌, take, drop}
use Rattle.status_server.specs.Requests.{before_query}
use Rattle.status_server.proofs.request.without_query.Given as goal

abbrev pub invariant-loop-end : goal.invariant-loop-end
invariant-loop-end l = before_query l.target ≡ take l.end l.target ++ before_query (drop l.end l.target)
