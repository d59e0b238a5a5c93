use Rattle.std.proofs.Common.{Result, Ok, Err, subst, List, length, ℕ, arith}
use Rattle.std.specs.Prelude.{IfOk}
use Rattle.vt_value.specs.declared.refusal.Refusal.{Refusal}
use Rattle.sql_lexer.specs.declared.token.Token.{Token}
use Rattle.sql_lexer.specs.Tokens.{Lexes}
use Rattle.sql_lexer.specs.inner.Results.{AgreesWith}
use Rattle.sql_lexer.specs.inner.Scanning.{lex_at}
use Rattle.sql_lexer.proofs.Options.{given}
use Rattle.sql_lexer.proofs.Lexes.{lex_sound, lex_again}
use Rattle.sql_lexer.proofs.lexing.lex.Goals as goal

is_found : {X : Type 0} (view : X → List Token) (text : List ℕ) (result : Result X Refusal) → AgreesWith view result (lex_at (length text) 0 text)
    → IfOk result (λ v. Lexes text (view v))
is_found view text (Ok v) e = lex_sound (length text) 0 text (view v) (omega arith) e
is_found view text (Err e) h = tt

pub returns-clause-found : goal.returns-clause-found
returns-clause-found c = is_found (λ v. v.items) c.args.text.now c.tokens.result c.tokens.ensures

pub returns-clause-only : goal.returns-clause-only
returns-clause-only c = λ tokens reads. given (λ v. v.items) tokens c.tokens.result
    (subst (AgreesWith (λ v. v.items) c.tokens.result) (lex_again reads (length c.args.text.now) (omega arith)) c.tokens.ensures)
