use Rattle.prepared_statements.proofs.Tokens.{filled_tokens, literal_reads}
use Rattle.prepared_statements.proofs.SentValues.{sent_fit}
use Rattle.prepared_statements.proofs.laws.values_are_literals.Goals as goal

pub returns-clause-said : goal.returns-clause-said
returns-clause-said c = λ pieces said values say fit. filled_tokens pieces said values say fit

pub returns-clause-literals : goal.returns-clause-literals
returns-clause-literals c = λ v h. literal_reads v h

pub returns-clause-sent : goal.returns-clause-sent
returns-clause-sent c = λ kept long bytes types values ex. sent_fit kept long bytes types values ex
