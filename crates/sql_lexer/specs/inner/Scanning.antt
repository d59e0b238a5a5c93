-- Reading tokens from left to right. No public clause cites this file: the code is shown to be as it says, and it to agree with the definitions.
use Rattle.std.specs.Prelude.{ℕ, zero, suc, ◌+◌, ◌*◌, ◌%◌, ◌^◌, ◌==◌, nat_le, Bool, false, ◌&&◌, List, [], ◌∷◌, length, take, drop, Option, Some, None, if◌then◌else◌}
use Rattle.std.specs.List.{filter, find}
use Rattle.vt_value.specs.declared.value.Comparison.{Comparison}
use Rattle.vt_value.specs.declared.value.Comparison.TheVariants.{Eq, Ne, Lt, Le, Gt, Ge}
use Rattle.sql_lexer.specs.declared.body.TextState.{TextState}
use Rattle.sql_lexer.specs.declared.body.TextState.TheVariants.{Inside, AfterQuote, AfterBackslash}
use Rattle.sql_lexer.specs.declared.token.Keyword as K
use Rattle.sql_lexer.specs.declared.token.Sign as S
use Rattle.sql_lexer.specs.declared.token.Sign.TheVariants.{LeftParenthesis, RightParenthesis, Comma, Semicolon, Star, Minus, Dot}
use Rattle.sql_lexer.specs.declared.token.Token.{Token}
use Rattle.sql_lexer.specs.declared.token.TokenKind.{TokenKind}
use Rattle.sql_lexer.specs.declared.token.TokenKind.TheVariants.{Keyword, Word, Quoted, Number, Text, Sign, Operator}
use Rattle.sql_lexer.specs.Keywords.{keywords, keyword_text}
use Rattle.sql_lexer.specs.inner.Results.{◌>>=◌}
use Rattle.sql_lexer.specs.Lexemes.{is_blank, is_letter, is_digit, is_word_byte, upper_case, is_spelling_of, max_word}

-- the kind of the token at the front, and how many bytes it has
abbrev pub Front : Type 0
Front = TokenKind × ℕ

-- how many bytes at the front pass
abbrev pub run : (ℕ → Bool) → List ℕ → ℕ
run p [] = 0
run p (b ∷ bytes) = if p b then suc (run p bytes) else 0

-- whether the first byte passes
abbrev pub first_passes : (ℕ → Bool) → List ℕ → Bool
first_passes p [] = false
first_passes p (b ∷ bytes) = p b

abbrev pub word_kind : Option K.Keyword → TokenKind
word_kind (Some k) = Keyword k
word_kind None = Word

-- the keyword that a word is in some case
unfoldable pub keyword_at : List ℕ → Option K.Keyword
keyword_at word = find (is_spelling_of word) keywords

-- a byte of a word in upper case
abbrev pub upper_at : ℕ → Option ℕ
upper_at b = if is_word_byte b then Some (upper_case b) else None

-- The code of a word is its bytes in upper case, the first the highest, as far as 64 bits hold them.
abbrev pub code_with : ℕ → ℕ → ℕ
code_with code upper = (code * 0x100 % 2 ^ 64 + upper) % 2 ^ 64

-- the code of a word whose last bytes are at the front
abbrev pub code_from : ℕ → List ℕ → ℕ
code_from code [] = code
code_from code (b ∷ bytes) = if is_word_byte b then code_from (code_with code (upper_case b)) bytes else code

abbrev pub has_code : ℕ → K.Keyword → Bool
has_code code k = code_from 0 (keyword_text k) == code

-- the keywords whose codes tell them apart from all other words of so many bytes
abbrev pub short_keywords : List K.Keyword
short_keywords = filter (λ k. nat_le (length (keyword_text k)) 8) keywords

unfoldable pub word_at : List ℕ → Option Front
word_at bytes =
    if nat_le (run is_word_byte bytes) max_word then Some (word_kind (keyword_at (take (run is_word_byte bytes) bytes)), run is_word_byte bytes) else None

unfoldable pub digits_at : List ℕ → Option Front
digits_at bytes = if first_passes is_word_byte (drop (run is_digit bytes) bytes) then None else Some (Number, run is_digit bytes)

-- after the first backquote
unfoldable pub quoted_at : List ℕ → Option Front
quoted_at bytes =
    if first_passes is_letter bytes && nat_le (run is_word_byte bytes) max_word && first_passes (λ b. b == 0x60) (drop (run is_word_byte bytes) bytes)
    then Some (Quoted, run is_word_byte bytes + 2) else None

-- the position in a text after a byte, unless the text ended before it
abbrev pub after_byte : TextState → ℕ → Option TextState
after_byte Inside b = if b == 0x27 then Some AfterQuote else if b == 0x5C then Some AfterBackslash else Some Inside
after_byte AfterQuote b = if b == 0x27 then Some Inside else None
after_byte AfterBackslash b = Some Inside

abbrev pub closed : ℕ → TextState → Option ℕ
closed n Inside = None
closed n AfterQuote = Some n
closed n AfterBackslash = None

-- how many bytes a text has after its first quote, if it is closed: n of them before these
unfoldable pub text_len : ℕ → TextState → List ℕ → Option ℕ
text_len n place [] = closed n place
text_len n place (b ∷ bytes) = elim (after_byte place b) [ Some next ↦ text_len (n + 1) next bytes | None ↦ Some n ]

-- after the first quote
unfoldable pub string_at : List ℕ → Option Front
string_at bytes = text_len 0 Inside bytes >>= λ n. Some (Text, n + 1)

abbrev pub sign_at : ℕ → Option S.Sign
sign_at b =
    if b == 0x28 then Some LeftParenthesis
    else if b == 0x29 then Some RightParenthesis
    else if b == 0x2C then Some Comma
    else if b == 0x3B then Some Semicolon
    else if b == 0x2A then Some Star
    else if b == 0x2D then Some Minus
    else if b == 0x2E then Some Dot
    else None

abbrev pub less_at : List ℕ → Option (Comparison × ℕ)
less_at [] = Some (Lt, 1)
less_at (b ∷ bytes) = if b == 0x3D then Some (Le, 2) else if b == 0x3E then Some (Ne, 2) else Some (Lt, 1)

abbrev pub greater_at : List ℕ → Option (Comparison × ℕ)
greater_at [] = Some (Gt, 1)
greater_at (b ∷ bytes) = if b == 0x3D then Some (Ge, 2) else Some (Gt, 1)

abbrev pub bang_at : List ℕ → Option (Comparison × ℕ)
bang_at [] = None
bang_at (b ∷ bytes) = if b == 0x3D then Some (Ne, 2) else None

-- the operator that begins with this byte, and how many bytes it has
abbrev pub operator_at : ℕ → List ℕ → Option (Comparison × ℕ)
operator_at b bytes =
    if b == 0x3C then less_at bytes
    else if b == 0x3E then greater_at bytes
    else if b == 0x21 then bang_at bytes
    else if b == 0x3D then Some (Eq, 1)
    else None

abbrev pub mark_of : Option S.Sign → Option (Comparison × ℕ) → Option Front
mark_of (Some s) read = Some (Sign s, 1)
mark_of None (Some op) = Some (Operator op.0, op.1)
mark_of None None = None

unfoldable pub mark_at : ℕ → List ℕ → Option Front
mark_at b bytes = mark_of (sign_at b) (operator_at b bytes)

unfoldable pub token_at : List ℕ → Option Front
token_at [] = None
token_at (b ∷ bytes) =
    if b == 0x60 then quoted_at bytes
    else if b == 0x27 then string_at bytes
    else if is_letter b then word_at (b ∷ bytes)
    else if is_digit b then digits_at (b ∷ bytes)
    else mark_at b bytes

-- n is at least the count of bytes, which are at this position of a text
unfoldable pub lex_at : ℕ → ℕ → List ℕ → Option (List Token)
lex_at zero at bytes = Some []
lex_at (suc n) at [] = Some []
lex_at (suc n) at (b ∷ bytes) =
    if is_blank b then lex_at n (at + 1) bytes
    else (token_at (b ∷ bytes) >>= λ x. lex_at n (at + x.1) (drop x.1 (b ∷ bytes)) >>= λ tokens. Some (record {
      kind = x.0;
      start = at;
      end = at + x.1;
    } ∷ tokens))
