use Rattle.std.proofs.Common.{◌≡◌, ◌++◌, ◌∙◌, ℕ, List, Bor, true, ap, subst, sym}
use Rattle.vt_value.specs.Values.{is_true}
use Rattle.sql_eval.specs.Sources.{padded_row}
use Rattle.sql_tree.specs.declared.Condition.{Condition}
use Rattle.sql_eval.specs.Conditions.{truth_at}
use Rattle.key_intervals.specs.Conjuncts.{passes}
use Rattle.key_intervals.proofs.Conjuncts.{one_true, all_members}
use Rattle.key_intervals.proofs.OwnConjuncts.{passes_more, ok_weaker}
use Rattle.key_intervals.proofs.pushdown.+own.Goals as goal

pub push_own-returns-in-And : goal.push_own-returns-in-And
push_own-returns-in-And t c = record {
  ok = ok_weaker c.push_own_of_each.result
      (λ h first second p e.
      h first second p (all_members (padded_row c.args.width first ++ second) c.args.condition.now c.in-And.members c.as_slice.result.now c.in-And.is c.as_slice.ensures e))
      c.push_own_of_each.ensures.ok;
}

pub push_own-returns-in_ok-push : goal.push_own-returns-in_ok-push
push_own-returns-in_ok-push t c = record {
  ok = λ first second p e.
      subst (λ (own : List (Bor (Condition ℕ))). passes own first ≡ true) (sym c.in_ok-push.ensures.items)
      (passes_more c.args.own.now.items c.args.condition first p (ap is_true (sym (c.is_below.ensures c.if-is_below.true first second)) ∙ e));
}

pub push_own_of_each-loop-member-preserved : goal.push_own_of_each-loop-member-preserved
push_own_of_each-loop-member-preserved t c = λ first second p e.
    c.in_ok-push_own.ensures.ok first second (c.loop-member.invariant first second p e)
    (one_true (truth_at (padded_row c.args.width first ++ second)) c.args.members.now c.loop-member.member-index c.member-item.result c.loop-member-test.true
    c.member-item.is e)
