use Rattle.client_statements.specs.Answers as x
use Rattle.client_statements.proofs.Answered.{under, with_rows}
use Rattle.client_statements.proofs.answers.no_warnings.Goals as goal

pub returns : goal.returns
returns c = λ schema facts. under schema facts _ _ _ _ c.in_ok-columns.ensures (with_rows schema facts _ _ _ _ c.new.ensures x.no_warnings)
