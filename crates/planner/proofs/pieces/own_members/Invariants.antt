use Rattle.std.proofs.Common.{◌≡◌, ◌≤◌, take, filter}
use Rattle.planner.specs.Plans.{is_member_of}
use Rattle.planner.proofs.pieces.own_members.Given as goal

abbrev pub invariant-loop-member : goal.invariant-loop-member
invariant-loop-member l =
    (l.list ≡ filter (is_member_of l.home.table.now l.home.range.now l.kind) (take l.member-index l.members)) × (l.at ≤ l.member-index)
