use Rattle.std.proofs.Common.{◌∙◌, sym}
use Rattle.std.proofs.lemmas.List.Sorted.{list_any-IsPermutation}
use Rattle.vt_value.specs.declared.value.Comparison.TheVariants.{Eq}
use Rattle.vt_value.specs.Values.{is_true, compare}
use Rattle.sql_eval.specs.Conditions.{operand_value}
use Rattle.sql_eval.proofs.Members.{true_in}
use Rattle.sql_eval.proofs.filters.among.Goals as goal

pub returns-in-Ok : goal.returns-in-Ok
returns-in-Ok c =
    record {
      ok = (λ row. let v = operand_value row c.args.operand.now in
          sym (true_in v c.args.members.now ∙ list_any-IsPermutation (λ m. is_true (compare Eq v m)) c.args.members.now c.in-Ok.sorted c.in-Ok.ensures.ok));
    }
