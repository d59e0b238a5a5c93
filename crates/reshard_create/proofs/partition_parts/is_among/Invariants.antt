use Rattle.std.proofs.Common.{◌≡◌, take}
use Rattle.std.specs.List.{AllByRecursion}
use Rattle.keyrange.specs.declared.KeyRange.{KeyRange}
use Rattle.reshard_create.proofs.partition_parts.is_among.Given as goal

-- none so far
abbrev pub invariant-loop-other : goal.invariant-loop-other
invariant-loop-other l = AllByRecursion (λ (r : KeyRange). r ≡ l.range → ⊥) (take l.other-index l.ranges)
