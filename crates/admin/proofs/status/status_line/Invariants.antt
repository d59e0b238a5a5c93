use Rattle.std.proofs.Common.{◌≡◌, ◌++◌, drop}
use Rattle.std.specs.Prelude.{codes, flat_map}
use Rattle.keyrange.specs.Names.{range_text}
use Rattle.admin.proofs.status.status_line.Given as goal

-- what is printed so far, with the ranges still to come, is all
abbrev pub invariant-loop-range : goal.invariant-loop-range
invariant-loop-range l =
    l.out.items ++ flat_map (λ range. codes " " ++ range_text range) (drop l.range-index l.serving)
    ≡ codes "serving" ++ flat_map (λ range. codes " " ++ range_text range) l.serving
