use Rattle.std.proofs.Common.{◌∙◌, sym, ap, subst, Some}
use Rattle.std.specs.List.{list_all}
use Rattle.sql_eval.specs.Conditions.{is_kept}
use Rattle.sql_eval.specs.inner.Tests.{passes, AreTestsOf}
use Rattle.sql_eval.proofs.filters.Filter.keeps.Goals as goal

pub returns-in-Some : goal.returns-in-Some
returns-in-Some c =
    let row = c.args.row.now in
    let tests : AreTestsOf c.self.inside.condition.now (Some c.in-Some.tests) = subst (AreTestsOf c.self.inside.condition.now) c.in-Some.is c.self.invariant in
    c.all_pass.ensures ∙ ap (list_all (passes row)) c.as_slice.ensures ∙ sym (tests row) ∙ ap (λ f. is_kept f row) c.self.view_is
