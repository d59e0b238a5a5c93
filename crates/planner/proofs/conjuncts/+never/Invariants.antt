use Rattle.std.proofs.Common.{◌≡◌, drop, map}
use Rattle.std.specs.List.{list_any}
use Rattle.planner.specs.Routes.{is_never}
use Rattle.planner.proofs.conjuncts.+never.Given as goal

abbrev pub invariant-has_never-loop-member : goal.invariant-has_never-loop-member
invariant-has_never-loop-member l = list_any (λ n. n) (map is_never (drop l.member-index l.members)) ≡ list_any (λ n. n) (map is_never l.members)
