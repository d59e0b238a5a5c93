use Rattle.std.proofs.Common.{◌≡◌, ◌≤◌, ◌<◌, ℕ, List, Option, Some, None, length, take, refl, sym, ap, ◌∙◌, arith}
use Rattle.std.specs.Prelude.{IfSome}
use Rattle.std.proofs.lemmas.List.{length-take}
use Rattle.sql_lexer.specs.declared.token.Token.{Token}
use Rattle.sql_lexer.specs.Tokens.{Lexes}
use Rattle.sql_lexer.specs.inner.Scanning.{lex_at}
use Rattle.sql_lexer.proofs.Options.{some_is}
use Rattle.sql_lexer.proofs.Lexes.{lex_sound, lex_again}
use Rattle.sql_lexer.proofs.few.lex_few.Goals as goal

is_found : (text : List ℕ) (room : List Token) (result : Option ℕ) → IfSome result (λ n. lex_at (length text) 0 text ≡ Some (take n room))
    → IfSome result (λ n. Lexes text (take n room))
is_found text room (Some n) e = lex_sound (length text) 0 text (take n room) (omega arith) e
is_found text room None h = tt

is_only : (text : List ℕ) (room : List Token) (most : ℕ) (result : Option ℕ) → IfSome result (λ n. n ≤ length room)
    → IfSome result (λ n. lex_at (length text) 0 text ≡ Some (take n room))
    → (result ≡ None → (tokens : List Token) → lex_at (length text) 0 text ≡ Some tokens → most < length tokens)
    → (tokens : List Token) → Lexes text tokens → length tokens ≤ most → result ≡ Some (length tokens)
is_only text room most (Some n) within e none tokens lexes few =
    let again : lex_at (length text) 0 text ≡ Some tokens = lex_again lexes (length text) (omega arith) in
    let same : take n room ≡ tokens = some_is _ _ (sym e ∙ again) in
    ap (λ (k : ℕ). Some k) (omega (arith, length-take n room, ap length same))
is_only text room most None within e none tokens lexes few =
    let more = none refl tokens (lex_again lexes (length text) (omega arith)) in
    absurd (omega arith)

pub returns-clause-found : goal.returns-clause-found
returns-clause-found c = is_found c.args.text.now _ c.few_tokens.result c.few_tokens.ensures.read

pub returns-clause-only : goal.returns-clause-only
returns-clause-only c = is_only c.args.text.now _ (length c.args.room.now) c.few_tokens.result c.few_tokens.ensures.within c.few_tokens.ensures.read c.few_tokens.ensures.none
