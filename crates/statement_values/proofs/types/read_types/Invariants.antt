use Rattle.std.proofs.Common.{◌-◌, length}
use Rattle.statement_values.proofs.Bindings.{TypesSoFar}
use Rattle.statement_values.proofs.types.read_types.Given as goal

abbrev pub invariant-loop-rest : goal.invariant-loop-rest
invariant-loop-rest l = TypesSoFar l.fn.count l.fn.bytes l.types l.rest

abbrev pub decreases-loop-rest : goal.decreases-loop-rest
decreases-loop-rest l = l.fn.count - length l.types
