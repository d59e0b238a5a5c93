use Rattle.std.proofs.Common.{◌≡◌, [], ◌++◌, map, take}
use Rattle.aggregate.specs.Groups.{joined_part}
use Rattle.aggregate.proofs.columns.push_empty_parts.Given as goal

abbrev pub invariant-loop-aggregate : goal.invariant-loop-aggregate
invariant-loop-aggregate l = l.parts.items ≡ l.fn.parts.items ++ map (λ a. joined_part a []) (take l.aggregate-index l.aggregates)
