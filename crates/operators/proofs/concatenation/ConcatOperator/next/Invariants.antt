use Rattle.std.proofs.Common.{◌≡◌, ◌-◌, vec_len, drop}
use Rattle.std.specs.Prelude.{IsTrue, flat_map}
use Rattle.operators.specs.Slices.{first_is}
use Rattle.operators.proofs.concatenation.ConcatOperator.next.Given as goal

-- the inputs that are passed had no rows left, and the first of them hadn't failed
abbrev pub invariant-loop-self : goal.invariant-loop-self
invariant-loop-self g l =
    (flat_map g.O.Operator.to_come (drop l.self.current l.self.inputs.items)
    ≡ flat_map g.O.Operator.to_come (drop l.initial.self.current l.initial.self.inputs.items))
    × (IsTrue (first_is g.O.Operator.has_failed (drop l.initial.self.current l.initial.self.inputs.items))
    → IsTrue (first_is g.O.Operator.has_failed (drop l.self.current l.self.inputs.items)))

abbrev pub decreases-loop-self : goal.decreases-loop-self
decreases-loop-self g l = vec_len l.self.inputs - l.self.current
