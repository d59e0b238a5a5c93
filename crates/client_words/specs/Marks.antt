-- Tokens that their kind tells.
use Rattle.std.specs.Prelude.{Bool, true, false, ◌∷◌, Some}
use Rattle.client_statements.specs.declared.tokens.token.Keyword.TheVariants as k
use Rattle.client_statements.specs.declared.tokens.token.Sign.TheVariants.{Comma, Dot, Equal, RightParenthesis, Semicolon}
use Rattle.client_statements.specs.tokens.Pieces.{Lexeme, bare, mark}
use Rattle.client_words.specs.Spelling.{Lexemes}

unfoldable pub is_from : Lexeme → Bool
is_from (bare (Some k.From) w) = true
is_from _ = false

unfoldable pub is_as : Lexeme → Bool
is_as (bare (Some k.As) w) = true
is_as _ = false

unfoldable pub is_comma : Lexeme → Bool
is_comma (mark Comma) = true
is_comma _ = false

unfoldable pub is_close : Lexeme → Bool
is_close (mark RightParenthesis) = true
is_close _ = false

unfoldable pub is_dot : Lexeme → Bool
is_dot (mark Dot) = true
is_dot _ = false

unfoldable pub is_order : Lexeme → Bool
is_order (bare (Some k.Order) w) = true
is_order _ = false

unfoldable pub is_equal : Lexeme → Bool
is_equal (mark Equal) = true
is_equal _ = false

unfoldable pub is_semicolon : Lexeme → Bool
is_semicolon (mark Semicolon) = true
is_semicolon _ = false

unfoldable pub is_set : Lexeme → Bool
is_set (bare (Some k.Set) w) = true
is_set _ = false

-- without a word at the front
unfoldable pub without_as : Lexemes → Lexemes
without_as (bare (Some k.As) w ∷ rest) = rest
without_as ts = ts

unfoldable pub without_into : Lexemes → Lexemes
without_into (bare (Some k.Into) w ∷ rest) = rest
without_into ts = ts

unfoldable pub is_group : Lexeme → Bool
is_group (bare (Some k.Group) w) = true
is_group _ = false
