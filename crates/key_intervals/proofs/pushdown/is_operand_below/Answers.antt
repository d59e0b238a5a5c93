use Rattle.std.proofs.Common.{◌≡◌, ◌++◌, ℕ, subst, sym}
use Rattle.std.proofs.lemmas.Bool.{ltb-true}
use Rattle.sql_eval.specs.Sources.{padded_row}
use Rattle.sql_tree.specs.declared.Operand.{Operand}
use Rattle.sql_eval.specs.Conditions.{operand_value}
use Rattle.sql_eval.proofs.PairValues.{left_at}
use Rattle.key_intervals.proofs.pushdown.is_operand_below.Goals as goal

pub returns-in-Column : goal.returns-in-Column
returns-in-Column c = λ below first second.
    subst (λ (o : Operand ℕ). operand_value (padded_row c.args.width first ++ second) o ≡ operand_value first o) (sym c.in-Column.is)
    (left_at c.args.width first second c.in-Column.ordinal (ltb-true c.in-Column.ordinal c.args.width below))
