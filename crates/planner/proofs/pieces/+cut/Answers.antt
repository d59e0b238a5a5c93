use Rattle.std.proofs.Common.{◌≡◌, sym, subst}
use Rattle.std.specs.Prelude.{IfOk}
use Rattle.planner.specs.Plans.{is_member_of}
use Rattle.planner.proofs.Cuts.{cut_of-other, cut_next}
use Rattle.planner.proofs.pieces.+cut.Goals as goal

pub cut_condition-returns-in_default : goal.cut_condition-returns-in_default
cut_condition-returns-in_default t c =
    let home = c.args.home.now in
    let same =
    cut_of-other home.keys (is_member_of home.table.now home.range.now) c.args.condition.now c.in_default.not-In c.in_default.not-And in
    record { ok = subst (λ z. IfOk c.copy_condition.result (λ r. r ≡ z)) (sym same) c.copy_condition.ensures.ok }

pub cut_members-loop-member-preserved : goal.cut_members-loop-member-preserved
cut_members-loop-member-preserved t c =
    let home = c.args.home.now in
    cut_next home.keys (is_member_of home.table.now home.range.now) c.loop-member.is_cut c.has_among-has.result c.loop-member.list
    c.args.members.now _ c.push.new.self c.member-item.result c.in_ok-member.member c.loop-member.member-index c.loop-member-test.true c.member-item.is
    c.has_among-has.ensures c.in_ok-member.ensures.ok c.in_ok-push.ensures.ok c.loop-member.invariant
