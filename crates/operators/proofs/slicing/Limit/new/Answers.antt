use Rattle.operators.proofs.CallLemmas.{limit_calls, fresh_calls}
use Rattle.operators.proofs.slicing.Limit.new.Goals as goal

pub returns-clause-calls : goal.returns-clause-calls
returns-clause-calls g c = λ calls later steps.
    rw (← fresh_calls c.args.limit calls) (limit_calls g.O.Operator.one_call calls _ later steps)
