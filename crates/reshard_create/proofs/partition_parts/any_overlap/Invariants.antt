use Rattle.std.proofs.Common.{ℕ, ◌<◌, get_or}
use Rattle.keyrange.specs.declared.KeyRange.{KeyRange}
use Rattle.keyrange.specs.Ranges.{Overlap}
use Rattle.reshard_create.proofs.partition_parts.any_overlap.Given as goal

-- no two so far
abbrev pub invariant-loop-i : goal.invariant-loop-i
invariant-loop-i l = (a b : ℕ) (d : KeyRange) → a < b → b < l.i → Overlap (get_or l.ranges a d) (get_or l.ranges b d) → ⊥
