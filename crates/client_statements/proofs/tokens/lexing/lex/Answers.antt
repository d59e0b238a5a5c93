use Rattle.std.proofs.Common.{◌≡◌, ℕ, Option, Some, None, Result, Ok, Err, List, length, sym, ◌∙◌, arith}
use Rattle.std.specs.Prelude.{IfOk, IfSome, option_map}
use Rattle.client_statements.specs.declared.tokens.token.Token.{Token}
use Rattle.client_statements.specs.tokens.Tokens.{HasTokens}
use Rattle.client_statements.specs.tokens.inner.Scanning.{tokens_at}
use Rattle.client_statements.proofs.tokens.Lexes.{lex_sound, lex_again}
use Rattle.client_statements.proofs.tokens.lexing.lex.Goals as goal

is_found : {X E : Type 0} (view : X → List Token) (text : List ℕ) (result : Result (Option X) E)
    → IfOk result (λ o. option_map view o ≡ tokens_at (length text) 0 text) → IfOk result (λ o. IfSome o (λ v. HasTokens text (view v)))
is_found view text (Ok (Some v)) e = lex_sound (length text) 0 text (view v) (omega arith) (sym e)
is_found view text (Ok None) e = tt
is_found view text (Err e) h = tt

is_only : {X E : Type 0} (view : X → List Token) (text : List ℕ) (tokens : List Token) → HasTokens text tokens → (result : Result (Option X) E)
    → IfOk result (λ o. option_map view o ≡ tokens_at (length text) 0 text) → IfOk result (λ o. option_map view o ≡ Some tokens)
is_only view text tokens has (Ok o) e = e ∙ lex_again has (length text) (omega arith)
is_only view text tokens has (Err e) h = tt

pub returns-clause-found : goal.returns-clause-found
returns-clause-found c = is_found (λ v. v.items) c.args.text.now c.tokens.result c.tokens.ensures

pub returns-clause-only : goal.returns-clause-only
returns-clause-only c = λ tokens has. is_only (λ v. v.items) c.args.text.now tokens has c.tokens.result c.tokens.ensures
