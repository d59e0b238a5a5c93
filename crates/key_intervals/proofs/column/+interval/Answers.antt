use Rattle.key_intervals.proofs.Conjuncts.{one_true, all_members}
use Rattle.sql_eval.specs.Conditions.{truth_at}
use Rattle.key_intervals.proofs.column.+interval.Goals as goal

pub narrow-returns-in-And : goal.narrow-returns-in-And
narrow-returns-in-And t c = λ row p e.
    c.narrow_by_each.ensures row p (all_members row c.args.condition.now c.in-And.members c.as_slice.result.now c.in-And.is c.as_slice.ensures e)

pub narrow_by_each-loop-member-preserved : goal.narrow_by_each-loop-member-preserved
narrow_by_each-loop-member-preserved t c = λ row p e.
    c.narrow.ensures row (c.loop-member.invariant row p e)
    (one_true (truth_at row) c.args.members.now c.loop-member.member-index c.member-item.result c.loop-member-test.true c.member-item.is e)
