use Rattle.statement_values.proofs.Points.{numeral_utf8}
use Rattle.statement_values.proofs.decimal.number_of.Goals as goal

pub returns-in-Err-clause-none : goal.returns-in-Err-clause-none
returns-in-Err-clause-none c = λ is numeral fits. c.in-Err.ensures.cases.0 (numeral_utf8 c.args.text.now numeral)
