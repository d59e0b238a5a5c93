use Rattle.std.proofs.Common.{◌≡◌, drop, map, flat_map}
use Rattle.planner.specs.Routes.{equals, first_of}
use Rattle.planner.proofs.conjuncts.+equal.Given as goal

abbrev pub invariant-first_equal_of-loop-member : goal.invariant-first_equal_of-loop-member
invariant-first_equal_of-loop-member l =
    first_of (flat_map (λ x. x) (map (equals l.keys) (drop l.member-index l.members))) ≡ first_of (flat_map (λ x. x) (map (equals l.keys) l.members))
