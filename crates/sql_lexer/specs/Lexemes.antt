-- What a token of a SQL text says, and how it is spelled.
use Rattle.std.specs.Prelude.{◌≡◌, ℕ, ◌+◌, ◌-◌, ◌*◌, Bool, true, false, not, ◌&&◌, ◌||◌, ◌==◌, nat_le, List, [], ◌∷◌, ◌++◌, length, take, drop, map, slice_range, codes, bytes_eq, if◌then◌else◌}
use Rattle.std.specs.List.{list_all, list_any}
use Rattle.vt_value.specs.declared.value.Comparison.{Comparison}
use Rattle.vt_value.specs.declared.value.Comparison.TheVariants.{Eq, Ne, Lt, Le, Gt, Ge}
use Rattle.sql_lexer.specs.declared.token.Keyword as K
use Rattle.sql_lexer.specs.declared.token.Sign as S
use Rattle.sql_lexer.specs.declared.token.Token.{Token}
use Rattle.sql_lexer.specs.declared.token.TokenKind.{TokenKind}
use Rattle.sql_lexer.specs.declared.token.TokenKind.TheVariants.{Keyword, Word, Quoted, Number, Text, Sign, Operator}
use Rattle.sql_lexer.specs.declared.token.Sign.TheVariants.{LeftParenthesis, RightParenthesis, Comma, Semicolon, Star, Minus, Dot}
use Rattle.sql_lexer.specs.Keywords.{keywords, keyword_text}

-- what the grammar sees of a token
pub data Lexeme : Type 0 where
  keyword : K.Keyword → Lexeme
  identifier : List ℕ → Lexeme
  number : ℕ → Lexeme
  text : List ℕ → Lexeme
  sign : S.Sign → Lexeme
  operator : Comparison → Lexeme

-- blank, tab, line feed, vertical tab, form feed, carriage return
abbrev pub is_blank : ℕ → Bool
is_blank b = (b == 0x20) || nat_le 0x09 b && nat_le b 0x0D

-- an ASCII letter or `_`
abbrev pub is_letter : ℕ → Bool
is_letter b = nat_le 0x41 b && nat_le b 0x5A || nat_le 0x61 b && nat_le b 0x7A || (b == 0x5F)

abbrev pub is_digit : ℕ → Bool
is_digit b = nat_le 0x30 b && nat_le b 0x39

abbrev pub is_word_byte : ℕ → Bool
is_word_byte b = is_letter b || is_digit b

abbrev pub upper_case : ℕ → ℕ
upper_case b = if nat_le 0x61 b && nat_le b 0x7A then b - 0x20 else b

abbrev pub max_word : ℕ
max_word = 64

-- a letter or `_`, then letters, digits and `_`, at most 64 bytes
abbrev pub is_word : List ℕ → Bool
is_word [] = false
is_word (b ∷ bytes) = is_letter b && list_all is_word_byte bytes && nat_le (length (b ∷ bytes)) max_word

-- a word that is a keyword in any case is that keyword
abbrev pub is_spelling_of : List ℕ → K.Keyword → Bool
is_spelling_of word k = bytes_eq (map upper_case word) (keyword_text k)

abbrev pub is_keyword : List ℕ → Bool
is_keyword word = list_any (is_spelling_of word) keywords

-- the value of decimal digits, the first the highest
abbrev pub digits_onto : ℕ → List ℕ → ℕ
digits_onto high [] = high
digits_onto high (b ∷ bytes) = digits_onto (high * 10 + (b - 0x30)) bytes

-- what a backslash and this byte say in a text
abbrev pub escaped : ℕ → List ℕ
escaped b =
    if b == 0x30 then 0x00 ∷ []
    else if b == 0x62 then 0x08 ∷ []
    else if b == 0x74 then 0x09 ∷ []
    else if b == 0x6E then 0x0A ∷ []
    else if b == 0x72 then 0x0D ∷ []
    else if b == 0x5A then 0x1A ∷ []
    else if (b == 0x25) || (b == 0x5F) then 0x5C ∷ b ∷ []
    else b ∷ []

-- Between the quotes of a text stand bytes other than a quote and a backslash, pairs of quotes, and backslashes each with the byte
-- that it escapes.
pub data IsBody : List ℕ → Type 0 where
  done : IsBody []
  plain : {b : ℕ} {bytes : List ℕ} → b == 0x27 ≡ false → b == 0x5C ≡ false → IsBody bytes → IsBody (b ∷ bytes)
  quotes : {bytes : List ℕ} → IsBody bytes → IsBody (0x27 ∷ 0x27 ∷ bytes)
  escape : {b : ℕ} {bytes : List ℕ} → IsBody bytes → IsBody (0x5C ∷ b ∷ bytes)

-- what comes between the quotes: a pair of quotes says one
abbrev pub unescaped : List ℕ → List ℕ
unescaped [] = []
unescaped (b ∷ []) = b ∷ []
unescaped (b ∷ c ∷ bytes) =
    if b == 0x27 then 0x27 ∷ unescaped bytes
    else if b == 0x5C then escaped c ++ unescaped bytes
    else b ∷ unescaped (c ∷ bytes)

abbrev pub sign_text : S.Sign → List ℕ
sign_text LeftParenthesis = codes "("
sign_text RightParenthesis = codes ")"
sign_text Comma = codes ","
sign_text Semicolon = codes ";"
sign_text Star = codes "*"
sign_text Minus = codes "-"
sign_text Dot = codes "."

abbrev pub operator_text : Comparison → List ℕ
operator_text Eq = codes "="
operator_text Ne = codes "<>"
operator_text Lt = codes "<"
operator_text Le = codes "<="
operator_text Gt = codes ">"
operator_text Ge = codes ">="

-- how a token of each kind is spelled; `!=` is a second spelling of `<>`
pub data Spells : List ℕ → TokenKind → Type 0 where
  keyword_word : {bytes : List ℕ} → (k : K.Keyword) → is_spelling_of bytes k ≡ true → Spells bytes (Keyword k)
  word : {bytes : List ℕ} → is_word bytes ≡ true → is_keyword bytes ≡ false → Spells bytes Word
  quoted : (bytes : List ℕ) → is_word bytes ≡ true → Spells (0x60 ∷ bytes ++ 0x60 ∷ []) Quoted
  digits : {b : ℕ} {bytes : List ℕ} → is_digit b ≡ true → list_all is_digit bytes ≡ true → Spells (b ∷ bytes) Number
  string : {bytes : List ℕ} → IsBody bytes → Spells (0x27 ∷ bytes ++ 0x27 ∷ []) Text
  mark : (s : S.Sign) → Spells (sign_text s) (Sign s)
  comparison : (op : Comparison) → Spells (operator_text op) (Operator op)
  bang : Spells (codes "!=") (Operator Ne)

-- the bytes between a first and a last one
abbrev pub inner : List ℕ → List ℕ
inner bytes = take (length bytes - 2) (drop 1 bytes)

-- what a token of the kind says, by its bytes
abbrev pub said_by : TokenKind → List ℕ → Lexeme
said_by (Keyword k) bytes = keyword k
said_by Word bytes = identifier bytes
said_by Quoted bytes = identifier (inner bytes)
said_by Number bytes = number (digits_onto 0 bytes)
said_by Text bytes = text (unescaped (inner bytes))
said_by (Sign s) bytes = sign s
said_by (Operator op) bytes = operator op

-- what the tokens of a text say
abbrev pub lexemes_of : List ℕ → List Token → List Lexeme
lexemes_of bytes tokens = map (λ t. said_by t.kind (slice_range bytes t.start t.end)) tokens

-- A byte that a token of the kind doesn't stand right before: it would make the token longer, or it is a letter after a number.
abbrev pub goes_on : TokenKind → ℕ → Bool
goes_on (Keyword k) b = is_word_byte b
goes_on Word b = is_word_byte b
goes_on Quoted b = false
goes_on Number b = is_word_byte b
goes_on Text b = b == 0x27
goes_on (Sign s) b = false
goes_on (Operator Eq) b = false
goes_on (Operator Ne) b = false
goes_on (Operator Lt) b = (b == 0x3D) || (b == 0x3E)
goes_on (Operator Le) b = false
goes_on (Operator Gt) b = b == 0x3D
goes_on (Operator Ge) b = false

-- a token of the kind may end before these bytes
abbrev pub ends_token : TokenKind → List ℕ → Bool
ends_token kind [] = true
ends_token kind (b ∷ bytes) = not (goes_on kind b)
