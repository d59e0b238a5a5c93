use Rattle.std.proofs.Common.{◌≡◌, ◌++◌, take}
use Rattle.planner.proofs.planning.group_items.Given as goal

abbrev pub invariant-loop-aggregate : goal.invariant-loop-aggregate
invariant-loop-aggregate l = l.items ≡ l.initial.items ++ take l.aggregate-index l.aggregates
