use Rattle.std.proofs.Common.{◌≡◌, ◌-◌, ◌++◌, length, take, drop}
use Rattle.prepared_statements.specs.Holes.{no_long}
use Rattle.prepared_statements.proofs.long_data.clear_holes.Given as goal

-- the holes so far are cleared
abbrev pub invariant-loop-hole : goal.invariant-loop-hole
invariant-loop-hole l = l.holes.items ≡ no_long (take l.hole l.fn.holes.items) ++ drop l.hole l.fn.holes.items

abbrev pub decreases-loop-hole : goal.decreases-loop-hole
decreases-loop-hole l = length l.fn.holes.items - l.hole
