use Rattle.std.proofs.Common.{◌≡◌, take}
use Rattle.planner.proofs.copies.copy_ordinals.Given as goal

abbrev pub invariant-loop-ordinal : goal.invariant-loop-ordinal
invariant-loop-ordinal l = l.copied ≡ take l.ordinal-index l.ordinals
