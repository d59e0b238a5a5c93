-- The pieces of what a client says: tokens, blanks and comments, how each is spelled, and what a token says. After 'Language Structure'
-- of MySQL's reference manual.
use Rattle.std.specs.Prelude.{◌≡◌, ℕ, Bool, true, false, not, ◌&&◌, ◌||◌, ◌==◌, List, [], ◌∷◌, ◌++◌, drop, map, slice_range, codes, bytes_eq, Option, Some, None, if◌then◌else◌}
use Rattle.std.specs.List.{list_all}
use Rattle.sql_lexer.specs.Lexemes.{is_blank, is_letter, is_digit, is_word_byte, escaped, inner}
use Rattle.sql_lexer.specs.inner.Scanning.{first_passes}
use Rattle.client_statements.specs.tokens.Keywords.{keyword_of}
use Rattle.client_statements.specs.declared.tokens.token.Keyword.{Keyword}
use Rattle.client_statements.specs.declared.tokens.token.Sign as S
use Rattle.client_statements.specs.declared.tokens.token.Sign.TheVariants.{Equal, Assign, Comma, Dot, LeftParenthesis, RightParenthesis, Semicolon, Star, Minus}
use Rattle.client_statements.specs.declared.tokens.token.Token.{Token}
use Rattle.client_statements.specs.declared.tokens.token.TokenKind.{TokenKind}
use Rattle.client_statements.specs.declared.tokens.token.TokenKind.TheVariants.{Word, Name, Variable, Number, Text, Operator, Sign}

abbrev pub in_line : ℕ → Bool
in_line b = not (b == 0x0A)

abbrev pub in_name : ℕ → Bool
in_name b = not (b == 0x60)

-- `'` or `"`
abbrev pub is_quote : ℕ → Bool
is_quote b = (b == 0x27) || (b == 0x22)

-- `<`, `=`, `>`, `!`, `&` or `|`
abbrev pub is_operator_byte : ℕ → Bool
is_operator_byte b = (b == 0x3C) || (b == 0x3D) || (b == 0x3E) || (b == 0x21) || (b == 0x26) || (b == 0x7C)

-- Between the quotes of a text stand bytes other than its quote and a backslash, pairs of its quote, and backslashes each with the byte
-- that it escapes.
pub data IsQuoted (quote : ℕ) : List ℕ → Type 0 where
  done : IsQuoted quote []
  plain : {b : ℕ} {bytes : List ℕ} → b == quote ≡ false → b == 0x5C ≡ false → IsQuoted quote bytes → IsQuoted quote (b ∷ bytes)
  pair : {bytes : List ℕ} → IsQuoted quote bytes → IsQuoted quote (quote ∷ quote ∷ bytes)
  escape : {b : ℕ} {bytes : List ℕ} → IsQuoted quote bytes → IsQuoted quote (0x5C ∷ b ∷ bytes)

-- a `*/` stands somewhere
abbrev pub has_close : List ℕ → Bool
has_close [] = false
has_close (b ∷ bytes) = (b == 0x2A) && first_passes (λ c. c == 0x2F) bytes || has_close bytes

abbrev pub sign_text : S.Sign → List ℕ
sign_text Equal = codes "="
sign_text Assign = codes ":="
sign_text Comma = codes ","
sign_text Dot = codes "."
sign_text LeftParenthesis = codes "("
sign_text RightParenthesis = codes ")"
sign_text Semicolon = codes ";"
sign_text Star = codes "*"
sign_text Minus = codes "-"

-- after a `-` these bytes make it a comment
abbrev pub begins_dashes : List ℕ → Bool
begins_dashes [] = false
begins_dashes (b ∷ bytes) = (b == 0x2D) && not (first_passes (λ c. not (is_blank c)) bytes)

-- these bytes may follow a sign; `=` is read as operators are
abbrev pub may_follow : S.Sign → List ℕ → Bool
may_follow Equal rest = false
may_follow Minus rest = not (begins_dashes rest)
may_follow _ rest = true

-- what operator bytes are
abbrev pub operator_kind : List ℕ → TokenKind
operator_kind bytes = if bytes_eq bytes (codes "=") then Sign Equal else Operator

-- The first bytes are a piece, if the second ones follow it: a token of the kind, or none of a blank and of a comment. A comment is `#`
-- or `-- ` up to the end of the line, or stands between `/*` and the next `*/`; one that begins with `!` is none. A token is as long as
-- possible, and no letter stands right after a number.
pub data IsPiece : List ℕ → List ℕ → Option TokenKind → Type 0 where
  blank : {b : ℕ} {rest : List ℕ} → is_blank b ≡ true → IsPiece (b ∷ []) rest None
  hash : {bytes rest : List ℕ} → list_all in_line bytes ≡ true → first_passes in_line rest ≡ false → IsPiece (0x23 ∷ bytes) rest None
  dashes : {bytes rest : List ℕ} → list_all in_line bytes ≡ true → first_passes in_line rest ≡ false → first_passes (λ b. not (is_blank b)) bytes ≡ false
      → IsPiece (0x2D ∷ 0x2D ∷ bytes) rest None
  remark : (bytes : List ℕ) {rest : List ℕ} → first_passes (λ b. b == 0x21) bytes ≡ false → has_close (bytes ++ 0x2A ∷ []) ≡ false
      → IsPiece (0x2F ∷ 0x2A ∷ bytes ++ 0x2A ∷ 0x2F ∷ []) rest None
  word : {b : ℕ} {bytes rest : List ℕ} → is_letter b ≡ true → list_all is_word_byte bytes ≡ true → first_passes is_word_byte rest ≡ false
      → IsPiece (b ∷ bytes) rest (Some (Word (keyword_of (b ∷ bytes))))
  name : (bytes : List ℕ) {rest : List ℕ} → list_all in_name bytes ≡ true → first_passes (λ b. b == 0x60) rest ≡ false
      → IsPiece (0x60 ∷ bytes ++ 0x60 ∷ []) rest (Some Name)
  variable : {b : ℕ} {bytes rest : List ℕ} → is_letter b ≡ true → list_all is_word_byte bytes ≡ true → first_passes is_word_byte rest ≡ false
      → IsPiece (0x40 ∷ 0x40 ∷ b ∷ bytes) rest (Some Variable)
  number : {b : ℕ} {bytes rest : List ℕ} → is_digit b ≡ true → list_all is_digit bytes ≡ true → first_passes is_word_byte rest ≡ false
      → IsPiece (b ∷ bytes) rest (Some Number)
  text : {quote : ℕ} {bytes rest : List ℕ} → is_quote quote ≡ true → IsQuoted quote bytes → first_passes (λ b. b == quote) rest ≡ false
      → IsPiece (quote ∷ bytes ++ quote ∷ []) rest (Some Text)
  operator : {b : ℕ} {bytes rest : List ℕ} → is_operator_byte b ≡ true → list_all is_operator_byte bytes ≡ true
      → first_passes is_operator_byte rest ≡ false → IsPiece (b ∷ bytes) rest (Some (operator_kind (b ∷ bytes)))
  sign : {rest : List ℕ} (s : S.Sign) → may_follow s rest ≡ true → IsPiece (sign_text s) rest (Some (Sign s))

-- what comes between the quotes: a pair of quotes says one
abbrev pub unquoted : ℕ → List ℕ → List ℕ
unquoted quote [] = []
unquoted quote (b ∷ []) = b ∷ []
unquoted quote (b ∷ c ∷ bytes) =
    if b == quote then quote ∷ unquoted quote bytes
    else if b == 0x5C then escaped c ++ unquoted quote bytes
    else b ∷ unquoted quote (c ∷ bytes)

abbrev pub unquoted_text : List ℕ → List ℕ
unquoted_text [] = []
unquoted_text (quote ∷ bytes) = unquoted quote (inner (quote ∷ bytes))

-- what a token of the kind says, by its bytes; a sign says nothing more than its kind
abbrev pub said_by : TokenKind → List ℕ → List ℕ
said_by (Word k) bytes = bytes
said_by Name bytes = inner bytes
said_by Variable bytes = drop 2 bytes
said_by Number bytes = bytes
said_by Text bytes = unquoted_text bytes
said_by Operator bytes = bytes
said_by (Sign s) bytes = []

-- what the grammar sees of a token: its kind, and what it says
pub data Lexeme : Type 0 where
  bare : Option Keyword → List ℕ → Lexeme
  named : List ℕ → Lexeme
  system : List ℕ → Lexeme
  digits : List ℕ → Lexeme
  quoted : List ℕ → Lexeme
  operator : List ℕ → Lexeme
  mark : S.Sign → Lexeme

abbrev pub lexeme_by : TokenKind → List ℕ → Lexeme
lexeme_by (Word k) bytes = bare k bytes
lexeme_by Name bytes = named bytes
lexeme_by Variable bytes = system bytes
lexeme_by Number bytes = digits bytes
lexeme_by Text bytes = quoted bytes
lexeme_by Operator bytes = operator bytes
lexeme_by (Sign s) bytes = mark s

abbrev pub lexeme_of : List ℕ → Token → Lexeme
lexeme_of whole t = lexeme_by t.kind (said_by t.kind (slice_range whole t.start t.end))

abbrev pub lexemes_of : List ℕ → List Token → List Lexeme
lexemes_of whole tokens = map (lexeme_of whole) tokens
