use Rattle.std.proofs.Common.{◌≡◌, ◌++◌, length}
use Rattle.client_statements.specs.tokens.Pieces.{unquoted}
use Rattle.client_statements.proofs.tokens.saying.unquoted.Given as goal

abbrev pub invariant-loop-rest : goal.invariant-loop-rest
invariant-loop-rest l = l.said.items ++ unquoted l.quote l.rest ≡ unquoted l.quote l.body

abbrev pub decreases-loop-rest : goal.decreases-loop-rest
decreases-loop-rest l = length l.rest
