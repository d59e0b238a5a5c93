use Rattle.std.proofs.Common.{◌≡◌, true, Option, Some, None, sym, subst, ap, ◌∙◌}
use Rattle.std.specs.Prelude.{IfSome}
use Rattle.vt_value.specs.declared.value.Truth.{Truth}
use Rattle.vt_value.specs.Values.{is_true}
use Rattle.sql_eval.specs.Conditions.{truth_at}
use Rattle.sql_eval.proofs.ConditionLemmas.{truth_at-And}
use Rattle.key_intervals.proofs.Conjuncts.{one_true}
use Rattle.key_intervals.proofs.equalities.+fixed.Goals as goal

some_weaker : {X : Type 0} (o : Option X) (P Q : X → Type 0) → ((x : X) → P x → Q x) → IfSome o P → IfSome o Q
some_weaker None P Q f h = h
some_weaker (Some x) P Q f h = f x h

pub fixed_values-returns-in-And : goal.fixed_values-returns-in-And
fixed_values-returns-in-And t c =
    some_weaker c.fixed_by_one.result _ _
    (λ v h row e. h row (subst (λ (x : Truth). is_true x ≡ true)
    (ap (truth_at row) c.in-And.is ∙ truth_at-And row c.in-And.members ∙ ap (λ l. Rattle.vt_value.specs.Values.all_true (Rattle.std.proofs.Common.map (truth_at row) l)) (sym c.as_slice-in-And.ensures)) e))
    c.fixed_by_one.ensures

pub fixed_by_one-returns-in-Some : goal.fixed_by_one-returns-in-Some
fixed_by_one-returns-in-Some t c = λ row h.
    c.in-Some.ensures row
    (one_true (truth_at row) c.args.members.now c.loop-member.member-index c.member-item.result c.loop-member-test.true c.member-item.is h)
