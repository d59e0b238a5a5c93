-- Tokens of small texts.
use Rattle.std.proofs.Common.{ℕ, [], ◌∷◌, ◌≡◌, refl, true, false}
use Rattle.std.specs.Prelude.{codes}
use Rattle.sql_lexer.specs.declared.token.Token.{Token}
use Rattle.sql_lexer.specs.declared.token.Keyword.TheVariants as k
use Rattle.sql_lexer.specs.declared.token.TokenKind.{TokenKind}
use Rattle.sql_lexer.specs.declared.token.TokenKind.TheVariants.{Word, Quoted, Number, Text}
use Rattle.sql_lexer.specs.Lexemes.{keyword, identifier, number, text, said_by, goes_on, is_spelling_of, is_keyword, lexemes_of}
use Rattle.sql_lexer.specs.Lexemes as s
use Rattle.sql_lexer.specs.Tokens.{Lexes}
use Rattle.sql_lexer.specs.Tokens as t

select : is_spelling_of (codes "sElect") k.Select ≡ true
select = refl

from_is_keyword : is_keyword (codes "from") ≡ true
from_is_keyword = refl

id_is_none : is_keyword (codes "id") ≡ false
id_is_none = refl

quoted : said_by Quoted (codes "`from`") ≡ identifier (codes "from")
quoted = refl

text_escape : said_by Text (codes "'it\\'s'") ≡ text (codes "it's")
text_escape = refl

text_doubled : said_by Text (codes "'it''s'") ≡ text (codes "it's")
text_doubled = refl

text_percent : said_by Text (codes "'a\\%'") ≡ text (codes "a\\%")
text_percent = refl

large : said_by Number (codes "18446744073709551615") ≡ number 18446744073709551615
large = refl

-- a number right before a letter is no token
letter_after : goes_on Number 0x78 ≡ true
letter_after = refl

abbrev token : TokenKind → ℕ → ℕ → Token
token kind start end = record { kind = kind; start = start; end = end }

two_tokens : Lexes (codes " id 5") (token Word 1 3 ∷ token Number 4 5 ∷ [])
two_tokens = t.blank refl (t.token {bytes = codes "id"} (s.word refl refl) refl (t.blank refl (t.token {bytes = codes "5"} (s.digits refl refl) refl t.end)))

what_they_say : lexemes_of (codes " id 5") (token Word 1 3 ∷ token Number 4 5 ∷ []) ≡ identifier (codes "id") ∷ number 5 ∷ []
what_they_say = refl
