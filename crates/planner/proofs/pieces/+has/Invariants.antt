use Rattle.std.proofs.Common.{◌≡◌, drop}
use Rattle.std.specs.List.{list_any}
use Rattle.planner.specs.Plans.{has_among}
use Rattle.planner.proofs.pieces.+has.Given as goal

abbrev pub invariant-one_has_among-loop-member : goal.invariant-one_has_among-loop-member
invariant-one_has_among-loop-member l = list_any (has_among l.keys) (drop l.member-index l.members) ≡ list_any (has_among l.keys) l.members
