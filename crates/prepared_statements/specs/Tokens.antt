-- What a filled text says: the tokens of its pieces, and between them those of one literal for each value.
use Rattle.std.specs.Prelude.{ℕ, suc, ◌<◌, ◌≤◌, ◌^◌, pos, negsuc, List, [], ◌∷◌, ◌++◌}
use Rattle.sql_lexer.specs.Value.{Value}
use Rattle.sql_lexer.specs.Value.TheVariants.{Null, Int, Bytes}
use Rattle.sql_lexer.specs.declared.token.Token.{Token}
use Rattle.sql_lexer.specs.declared.token.Keyword.TheVariants as K
use Rattle.sql_lexer.specs.declared.token.Sign.TheVariants.{Minus}
use Rattle.sql_lexer.specs.Lexemes.{Lexeme, keyword, number, text, sign, lexemes_of}
use Rattle.sql_lexer.specs.Tokens.{Lexes}

-- the grammar has a literal of this value
abbrev pub IsLiteral : Value → Type 0
IsLiteral Null = Unit {0}
IsLiteral (Int (pos n)) = n < 2 ^ 64
IsLiteral (Int (negsuc n)) = suc n ≤ 2 ^ 63
IsLiteral (Bytes t) = Unit {0}

-- the tokens of the literal that is printed for a value
abbrev pub literal_said : Value → List Lexeme
literal_said Null = keyword K.Null ∷ []
literal_said (Int (pos n)) = number n ∷ []
literal_said (Int (negsuc n)) = sign Minus ∷ number (suc n) ∷ []
literal_said (Bytes t) = text t ∷ []

-- each piece is whole tokens, which say this
pub data PiecesSay : List (List ℕ) → List (List Lexeme) → Type 0 where
  none : PiecesSay [] []
  more : {piece : List ℕ} {pieces : List (List ℕ)} {tokens : List Token} {said : List (List Lexeme)} → Lexes piece tokens → PiecesSay pieces said
      → PiecesSay (piece ∷ pieces) (lexemes_of piece tokens ∷ said)

-- what pieces say with the literals of values between them
abbrev pub said_with : List (List Lexeme) → List Value → List Lexeme
said_with [] values = []
said_with (p ∷ said) [] = p
said_with (p ∷ said) (v ∷ values) = p ++ (literal_said v ++ said_with said values)
