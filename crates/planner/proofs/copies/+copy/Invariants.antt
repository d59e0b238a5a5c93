use Rattle.std.proofs.Common.{◌≡◌, take}
use Rattle.planner.proofs.copies.+copy.Given as goal

abbrev pub invariant-copy_members-loop-member : goal.invariant-copy_members-loop-member
invariant-copy_members-loop-member l = l.copied ≡ take l.member-index l.members
