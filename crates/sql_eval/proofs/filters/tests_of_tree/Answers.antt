use Rattle.std.proofs.Common.{◌∙◌, sym, ap}
use Rattle.std.specs.List.{list_all}
use Rattle.vt_value.specs.Values.{is_true}
use Rattle.sql_eval.specs.Conditions.{truth_at}
use Rattle.sql_eval.proofs.ConditionLemmas.{truth_at-And}
use Rattle.sql_eval.proofs.Members.{all_are_true}
use Rattle.sql_eval.proofs.filters.tests_of_tree.Goals as goal

pub returns-in-Ok : goal.returns-in-Ok
returns-in-Ok c =
    record {
      ok = (λ row. ap (λ t. is_true (truth_at row t)) c.in-And.is ∙ ap is_true (truth_at-And row c.in-And.members) ∙ all_are_true row c.in-And.members
          ∙ ap (list_all (λ t. is_true (truth_at row t))) (sym c.as_slice-in-And.ensures) ∙ sym (c.in-Ok.ensures.ok row));
    }
