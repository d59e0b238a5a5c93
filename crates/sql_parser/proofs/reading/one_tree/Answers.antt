use Rattle.std.proofs.Common.{◌≡◌, ◌∙◌, ℕ, List, length, Some, sym, subst, arith}
use Rattle.sql_lexer.specs.declared.token.Token.{Token}
use Rattle.sql_lexer.specs.Lexemes.{lexemes_of}
use Rattle.sql_lexer.specs.Tokens.{Lexes}
use Rattle.sql_lexer.proofs.Lexes.{lex_again}
use Rattle.sql_lexer.proofs.Options.{some_is}
use Rattle.sql_parser.specs.inner.Reading.{text_at}
use Rattle.sql_parser.proofs.Statements.{text_again}
use Rattle.sql_parser.proofs.reading.one_tree.Goals as goal

same_tokens : (text : List ℕ) (ts us : List Token) → Lexes text ts → Lexes text us → ts ≡ us
same_tokens text ts us p q = some_is ts us (sym (lex_again p (length text) (omega arith)) ∙ lex_again q (length text) (omega arith))

pub returns : goal.returns
returns c = λ text x y p q.
    let same = same_tokens text q.0 p.0 q.1 p.1 in
    let first = text_again (lexemes_of text p.0) x p.2 (p.3, p.4) in
    let second = text_again (lexemes_of text q.0) y q.2 (q.3, q.4) in
    some_is x y (sym first ∙ subst (λ ts. text_at (lexemes_of text ts) ≡ Some y) same second)
