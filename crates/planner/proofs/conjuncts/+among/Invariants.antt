use Rattle.std.proofs.Common.{◌≡◌, drop, map, flat_map}
use Rattle.planner.specs.Routes.{among, first_of}
use Rattle.planner.proofs.conjuncts.+among.Given as goal

abbrev pub invariant-first_among_of-loop-member : goal.invariant-first_among_of-loop-member
invariant-first_among_of-loop-member l =
    first_of (flat_map (λ x. x) (map (among l.keys) (drop l.member-index l.members))) ≡ first_of (flat_map (λ x. x) (map (among l.keys) l.members))
