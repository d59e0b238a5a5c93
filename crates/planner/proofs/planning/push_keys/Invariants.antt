use Rattle.std.proofs.Common.{◌≡◌, ◌++◌, take, map}
use Rattle.planner.specs.Plans.{key_item}
use Rattle.planner.proofs.planning.push_keys.Given as goal

abbrev pub invariant-loop-key : goal.invariant-loop-key
invariant-loop-key l = l.items ≡ l.initial.items ++ map key_item (take l.key-index l.keys)
