use Rattle.std.proofs.Common.{sym, subst}
use Rattle.std.proofs.lemmas.Result.{IfOk-weaker}
use Rattle.sql_eval.specs.inner.Tests.{AreTestsOf}
use Rattle.sql_eval.proofs.Members.{tests_of_some}
use Rattle.sql_eval.proofs.filters.tests_of.Goals as goal

pub returns-in-Some : goal.returns-in-Some
returns-in-Some c =
    record {
      ok = IfOk-weaker c.tests_of_tree.result _ _
          (λ tests h. subst (λ f. AreTestsOf f tests) (sym c.in-Some.is) (tests_of_some c.in-Some.condition tests h)) c.tests_of_tree.ensures.ok;
    }
