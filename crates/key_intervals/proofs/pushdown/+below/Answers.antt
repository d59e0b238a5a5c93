use Rattle.std.proofs.Common.{◌++◌, rules}
use Rattle.std.specs.Prelude.{IsTrue}
use Rattle.sql_eval.specs.Sources.{padded_row}
use Rattle.sql_eval.specs.Conditions.{truth_at}
use Rattle.key_intervals.proofs.OwnConjuncts.{same_not, same_and, same_or, same_next}
use Rattle.key_intervals.proofs.pushdown.+below.Goals as goal

pub is_below-returns-in-Not : goal.is_below-returns-in-Not
is_below-returns-in-Not t c = λ below first second.
    same_not (padded_row c.args.width first ++ second) first c.args.condition.now c.in-Not.c c.get.result.now c.in-Not.is c.get.ensures
    (c.is_below.ensures below first second)

pub is_below-returns-in-And : goal.is_below-returns-in-And
is_below-returns-in-And t c = λ below first second.
    same_and (padded_row c.args.width first ++ second) first c.args.condition.now c.in-And.members c.as_slice.result.now c.in-And.is c.as_slice.ensures
    (c.are_below.ensures below first second)

pub is_below-returns-in-Or : goal.is_below-returns-in-Or
is_below-returns-in-Or t c = λ below first second.
    same_or (padded_row c.args.width first ++ second) first c.args.condition.now c.in-Or.members c.as_slice-in-Or.result.now c.in-Or.is c.as_slice-in-Or.ensures
    (c.are_below-in-Or.ensures below first second)

pub are_below-loop-member-preserved : goal.are_below-loop-member-preserved
are_below-loop-member-preserved t c = λ first second.
    let yes : IsTrue c.is_below.result = search rules in
    same_next (truth_at (padded_row c.args.width first ++ second)) (truth_at first) c.args.members.now c.loop-member.member-index c.member-item.result
    c.loop-member-test.true c.member-item.is (c.is_below.ensures yes first second) (c.loop-member.invariant first second)
