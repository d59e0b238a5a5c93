use Rattle.std.proofs.Common.{sym, ◌∙◌, length, arith}
use Rattle.sql_lexer.proofs.Options.{some_is}
use Rattle.client_statements.proofs.tokens.Lexes.{lex_again}
use Rattle.client_statements.proofs.tokens.lexing.one_lexing.Goals as goal

pub returns : goal.returns
returns c = λ text ts us p q. some_is ts us (sym (lex_again p (length text) (omega arith)) ∙ lex_again q (length text) (omega arith))
