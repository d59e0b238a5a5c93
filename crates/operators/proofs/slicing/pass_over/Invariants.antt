use Rattle.std.proofs.Common.{◌≡◌, drop}
use Rattle.operators.specs.Calls.{CallsAtMost}
use Rattle.operators.proofs.slicing.pass_over.Given as goal

-- the rows passed so far, one for each call
abbrev pub invariant-loop : goal.invariant-loop
invariant-loop g l =
    (g.O.Operator.to_come l.input ≡ drop l.counter (g.O.Operator.to_come l.fn.input))
    × CallsAtMost g.O.Operator.one_call l.counter l.fn.input l.input
