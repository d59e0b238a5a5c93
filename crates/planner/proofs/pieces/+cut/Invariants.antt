use Rattle.std.proofs.Common.{◌≡◌, ◌++◌, drop, map, cond}
use Rattle.planner.specs.Plans.{first_cut, cut_by, is_member_of}
use Rattle.planner.proofs.pieces.+cut.Given as goal

abbrev pub invariant-cut_members-loop-member : goal.invariant-cut_members-loop-member
invariant-cut_members-loop-member l =
    l.list
    ++ cond l.is_cut (drop l.member-index l.members)
    (first_cut l.home.keys (map (cut_by l.home.keys (is_member_of l.home.table.now l.home.range.now)) (drop l.member-index l.members)))
    ≡ first_cut l.home.keys (map (cut_by l.home.keys (is_member_of l.home.table.now l.home.range.now)) l.members)
