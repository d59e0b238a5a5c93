use Rattle.std.proofs.Common.{◌≡◌, drop}
use Rattle.vt_value.specs.Values.{same_row}
use Rattle.aggregate.proofs.keys.same.Given as goal

-- the values so far are the same
abbrev pub invariant-loop-i : goal.invariant-loop-i
invariant-loop-i l = same_row (drop l.i l.a) (drop l.i l.b) ≡ same_row l.a l.b
