use Rattle.sql_lexer.proofs.Lengths.{longest}
use Rattle.sql_lexer.proofs.lexing.longest.Goals as goal

pub returns : goal.returns
returns c = longest
