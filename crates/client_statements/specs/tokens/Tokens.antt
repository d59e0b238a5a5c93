-- The tokens of what a client says, with the positions of their bytes.
use Rattle.std.specs.Prelude.{ℕ, ◌+◌, List, [], ◌∷◌, ◌++◌, length, Option, Some, None}
use Rattle.client_statements.specs.declared.tokens.token.Token.{Token}
use Rattle.client_statements.specs.declared.tokens.token.TokenKind.{TokenKind}
use Rattle.client_statements.specs.tokens.Pieces.{IsPiece}

-- a token before others; a blank or a comment is none
abbrev pub onto_tokens : Option TokenKind → ℕ → ℕ → List Token → List Token
onto_tokens (Some kind) start end tokens = record { kind = kind; start = start; end = end } ∷ tokens
onto_tokens None start end tokens = tokens

-- from this position on a text is these bytes, whose tokens these are
pub data HasTokensFrom : ℕ → List ℕ → List Token → Type 0 where
  end : {at : ℕ} → HasTokensFrom at [] []
  piece : {at : ℕ} {bytes rest : List ℕ} {what : Option TokenKind} {tokens : List Token} → IsPiece bytes rest what
      → HasTokensFrom (at + length bytes) rest tokens → HasTokensFrom at (bytes ++ rest) (onto_tokens what at (at + length bytes) tokens)

-- the text is these tokens, blanks and comments
abbrev pub HasTokens : List ℕ → List Token → Type 0
HasTokens text tokens = HasTokensFrom 0 text tokens
