use Rattle.std.proofs.Common.{◌≡◌, ◌++◌, drop}
use Rattle.std.specs.Prelude.{flat_map, slice_get}
use Rattle.vtgate_lines.specs.Plans.{range_word}
use Rattle.vtgate_lines.proofs.plans.put_shards.Given as goal

abbrev pub invariant-loop-ordinal : goal.invariant-loop-ordinal
invariant-loop-ordinal l =
    l.out.items ++ flat_map (λ n. range_word (slice_get l.ranges n)) (drop l.ordinal-index l.ordinals) ≡ l.fn.out.items ++ flat_map (λ n. range_word (slice_get l.ranges n)) l.ordinals
