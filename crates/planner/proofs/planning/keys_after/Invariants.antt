use Rattle.std.proofs.Common.{◌≡◌, ◌+◌, ◌++◌, drop, length}
use Rattle.planner.specs.Plans.{keys_from}
use Rattle.planner.proofs.planning.keys_after.Given as goal

abbrev pub invariant-loop-ordinal : goal.invariant-loop-ordinal
invariant-loop-ordinal l = l.moved ++ keys_from (length l.items + l.ordinal) (drop l.ordinal l.keys) ≡ keys_from (length l.items) l.keys
