use Rattle.std.proofs.Common.{◌≡◌, ◌++◌, ℕ, Option, true, subst}
use Rattle.std.proofs.lemmas.Result.{IfOk-weaker}
use Rattle.sql_eval.specs.Sources.{padded_row}
use Rattle.sql_tree.specs.declared.Condition.{Condition}
use Rattle.sql_eval.specs.Conditions.{is_kept}
use Rattle.key_intervals.proofs.pushdown.own_conjuncts.Goals as goal

pub returns-in-Some : goal.returns-in-Some
returns-in-Some c =
    record {
      ok = IfOk-weaker c.conjuncts_of.result _ _
          (λ own h first second e. h first second (subst (λ (o : Option (Condition ℕ)). is_kept o (padded_row c.args.width first ++ second) ≡ true) c.in-Some.is e))
          c.conjuncts_of.ensures.ok;
    }
