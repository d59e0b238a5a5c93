-- Answers of client statements, by what their rows and columns are.
use Rattle.std.proofs.Common.{◌≡◌, ℕ, List, sym, subst}
use Rattle.vt_value.specs.Values.{Row}
use Rattle.vschema.specs.declared.schema.VSchema.{VSchema}
use Rattle.client_statements.specs.declared.answers.Facts.{Facts}
use Rattle.client_statements.specs.declared.answers.ClientAnswer.{ClientAnswer}
use Rattle.client_statements.specs.declared.answers.ClientAnswer.TheVariants.{Rows}
use Rattle.client_statements.specs.declared.statement.ClientStatement.{ClientStatement}
use Rattle.client_statements.specs.Answers.{IsClientAnswer}

module _ (schema : VSchema) (facts : Facts) (statement : ClientStatement) where
  pub under : (columns heads : List (List ℕ)) (rows : List Row) → columns ≡ heads → IsClientAnswer schema facts statement (Rows heads rows)
      → IsClientAnswer schema facts statement (Rows columns rows)
  under columns heads rows e is = subst (λ (names : List (List ℕ)). IsClientAnswer schema facts statement (Rows names rows)) (sym e) is

  pub with_rows : (heads : List (List ℕ)) (rows wanted : List Row) → rows ≡ wanted → IsClientAnswer schema facts statement (Rows heads wanted)
      → IsClientAnswer schema facts statement (Rows heads rows)
  with_rows heads rows wanted e is = subst (λ (xs : List Row). IsClientAnswer schema facts statement (Rows heads xs)) (sym e) is

  pub is_answer : (given wanted : ClientAnswer) → given ≡ wanted → IsClientAnswer schema facts statement wanted → IsClientAnswer schema facts statement given
  is_answer given wanted e is = subst (λ (x : ClientAnswer). IsClientAnswer schema facts statement x) (sym e) is
