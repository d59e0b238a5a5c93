use Rattle.std.proofs.Common.{◌++◌, length}
use Rattle.client_statements.specs.Likes.{pieces}
use Rattle.client_statements.specs.inner.Patterns.{IsReadAs}
use Rattle.client_statements.proofs.likes.pieces.Given as goal

abbrev pub invariant-loop-rest : goal.invariant-loop-rest
invariant-loop-rest l = IsReadAs l.pattern (l.found.items ++ pieces l.rest)

abbrev pub decreases-loop-rest : goal.decreases-loop-rest
decreases-loop-rest l = length l.rest
