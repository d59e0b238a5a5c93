-- The tokens of a SQL text, with the positions of their bytes. A token is as long as possible, and blanks may stand between tokens.
use Rattle.std.specs.Prelude.{◌≡◌, ℕ, ◌+◌, true, List, [], ◌∷◌, ◌++◌, length}
use Rattle.sql_lexer.specs.declared.token.Token.{Token}
use Rattle.sql_lexer.specs.declared.token.TokenKind.{TokenKind}
use Rattle.sql_lexer.specs.Lexemes.{Spells, ends_token, is_blank}

-- from this position on a text is these bytes: tokens and blanks
pub data LexesFrom : ℕ → List ℕ → List Token → Type 0 where
  end : {at : ℕ} → LexesFrom at [] []
  blank : {at b : ℕ} {rest : List ℕ} {tokens : List Token} → is_blank b ≡ true → LexesFrom (at + 1) rest tokens → LexesFrom at (b ∷ rest) tokens
  token : {at : ℕ} {bytes rest : List ℕ} {kind : TokenKind} {tokens : List Token}
      → Spells bytes kind → ends_token kind rest ≡ true → LexesFrom (at + length bytes) rest tokens
      → LexesFrom at (bytes ++ rest) (record { kind = kind; start = at; end = at + length bytes } ∷ tokens)

-- the text is these tokens and blanks
abbrev pub Lexes : List ℕ → List Token → Type 0
Lexes text tokens = LexesFrom 0 text tokens
