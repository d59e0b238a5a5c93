-- Reading tokens from left to right. No public clause cites this file: the code is shown to be as it says, and it to agree with the definitions.
use Rattle.std.specs.Prelude.{ℕ, zero, suc, ◌+◌, ◌==◌, Bool, false, not, ◌&&◌, List, [], ◌∷◌, take, drop, Option, Some, None, option_map, if◌then◌else◌}
use Rattle.client_statements.specs.tokens.Keywords.{keyword_of}
use Rattle.client_statements.specs.declared.tokens.body.TextState.{TextState}
use Rattle.client_statements.specs.declared.tokens.body.TextState.TheVariants.{Inside, AfterQuote, AfterBackslash}
use Rattle.client_statements.specs.declared.tokens.token.Sign as S
use Rattle.client_statements.specs.declared.tokens.token.Sign.TheVariants.{Assign, Comma, Dot, LeftParenthesis, RightParenthesis, Semicolon, Star, Minus}
use Rattle.client_statements.specs.declared.tokens.token.Token.{Token}
use Rattle.client_statements.specs.declared.tokens.token.TokenKind.{TokenKind}
use Rattle.client_statements.specs.declared.tokens.token.TokenKind.TheVariants.{Word, Name, Variable, Number, Text, Sign}
use Rattle.client_statements.specs.tokens.Pieces.{in_line, in_name, is_quote, is_operator_byte, operator_kind}
use Rattle.client_statements.specs.tokens.Tokens.{onto_tokens}
use Rattle.sql_lexer.specs.Lexemes.{is_blank, is_letter, is_digit, is_word_byte}
use Rattle.sql_lexer.specs.inner.Scanning.{run, first_passes}

-- what is at the front, and how many bytes it has
abbrev pub Front : Type 0
Front = Option TokenKind × ℕ

-- how many bytes stand up to the first `*/`, it included
unfoldable pub remark_len : List ℕ → Option ℕ
remark_len [] = None
remark_len (b ∷ bytes) =
    if (b == 0x2A) && first_passes (λ c. c == 0x2F) bytes then Some 2 else option_map suc (remark_len bytes)

-- the position in a text after a byte, unless the text ended before it
abbrev pub after_byte : ℕ → TextState → ℕ → Option TextState
after_byte quote Inside b = if b == quote then Some AfterQuote else if b == 0x5C then Some AfterBackslash else Some Inside
after_byte quote AfterQuote b = if b == quote then Some Inside else None
after_byte quote AfterBackslash b = Some Inside

abbrev pub closed : ℕ → TextState → Option ℕ
closed n Inside = None
closed n AfterQuote = Some n
closed n AfterBackslash = None

-- how many bytes a text has after its first quote, if it is closed: n of them before these
unfoldable pub text_len : ℕ → ℕ → TextState → List ℕ → Option ℕ
text_len quote n place [] = closed n place
text_len quote n place (b ∷ bytes) = elim (after_byte quote place b) [ Some next ↦ text_len quote (n + 1) next bytes | None ↦ Some n ]

-- what is at the front, after its first byte
unfoldable pub number_at : List ℕ → Option Front
number_at bytes = if first_passes is_word_byte (drop (run is_digit bytes) bytes) then None else Some (Some Number, suc (run is_digit bytes))

unfoldable pub text_at : ℕ → List ℕ → Option Front
text_at quote bytes = option_map (λ n. (Some Text, n + 1)) (text_len quote 0 Inside bytes)

abbrev pub is_name_before : List ℕ → Bool
is_name_before [] = false
is_name_before (b ∷ bytes) = not (first_passes (λ c. c == 0x60) bytes)

unfoldable pub name_at : List ℕ → Option Front
name_at bytes = if is_name_before (drop (run in_name bytes) bytes) then Some (Some Name, run in_name bytes + 2) else None

unfoldable pub variable_at : List ℕ → Option Front
variable_at [] = None
variable_at (b ∷ bytes) = if (b == 0x40) && first_passes is_letter bytes then Some (Some Variable, run is_word_byte bytes + 2) else None

unfoldable pub dashes_at : List ℕ → Option Front
dashes_at [] = Some (Some (Sign Minus), 1)
dashes_at (b ∷ bytes) = if (b == 0x2D) && not (first_passes (λ c. not (is_blank c)) bytes) then Some (None, run in_line bytes + 2) else Some (Some (Sign Minus), 1)

unfoldable pub remark_at : List ℕ → Option Front
remark_at [] = None
remark_at (b ∷ bytes) = if (b == 0x2A) && not (first_passes (λ c. c == 0x21) bytes) then option_map (λ n. (None, n + 2)) (remark_len bytes) else None

unfoldable pub assigns_at : List ℕ → Option Front
assigns_at bytes = if first_passes (λ c. c == 0x3D) bytes then Some (Some (Sign Assign), 2) else None

abbrev pub sign_at : ℕ → Option S.Sign
sign_at b =
    if b == 0x2A then Some Star
    else if b == 0x2C then Some Comma
    else if b == 0x2E then Some Dot
    else if b == 0x28 then Some LeftParenthesis
    else if b == 0x29 then Some RightParenthesis
    else if b == 0x3B then Some Semicolon
    else None

unfoldable pub mark_at : ℕ → List ℕ → Option Front
mark_at b bytes =
    if b == 0x60 then name_at bytes
    else if b == 0x40 then variable_at bytes
    else if b == 0x23 then Some (None, suc (run in_line bytes))
    else if b == 0x2D then dashes_at bytes
    else if b == 0x2F then remark_at bytes
    else if b == 0x3A then assigns_at bytes
    else option_map (λ s. (Some (Sign s), 1)) (sign_at b)

unfoldable pub word_at : List ℕ → Option Front
word_at bytes = Some (Some (Word (keyword_of (take (run is_word_byte bytes) bytes))), run is_word_byte bytes)

unfoldable pub operator_at : List ℕ → Option Front
operator_at bytes = Some (Some (operator_kind (take (run is_operator_byte bytes) bytes)), run is_operator_byte bytes)

unfoldable pub piece_at : List ℕ → Option Front
piece_at [] = None
piece_at (b ∷ bytes) =
    if is_blank b then Some (None, 1)
    else if is_letter b then word_at (b ∷ bytes)
    else if is_digit b then number_at bytes
    else if is_quote b then text_at b bytes
    else if is_operator_byte b then operator_at (b ∷ bytes)
    else mark_at b bytes

-- n is at least the count of bytes, which are at this position of a text
unfoldable pub tokens_at : ℕ → ℕ → List ℕ → Option (List Token)
tokens_at zero at bytes = Some []
tokens_at (suc n) at [] = Some []
tokens_at (suc n) at (b ∷ bytes) = elim (piece_at (b ∷ bytes)) [
  | Some x ↦ option_map (onto_tokens x.0 at (at + x.1)) (tokens_at n (at + x.1) (drop x.1 (b ∷ bytes)))
  | None ↦ None
]
