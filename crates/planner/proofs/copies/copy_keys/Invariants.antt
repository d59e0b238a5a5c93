use Rattle.std.proofs.Common.{◌≡◌, take}
use Rattle.planner.proofs.copies.copy_keys.Given as goal

abbrev pub invariant-loop-key : goal.invariant-loop-key
invariant-loop-key l = l.copied ≡ take l.key-index l.keys
