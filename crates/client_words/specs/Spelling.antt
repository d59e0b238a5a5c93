-- How the tokens of what a client says are spelled in SQL.
use Rattle.std.specs.Prelude.{ℕ, List, [], ◌∷◌, ◌++◌, codes, bytes_eq, Option, Some, if◌then◌else◌}
use Rattle.client_statements.specs.declared.tokens.token.Keyword.TheVariants as k
use Rattle.client_statements.specs.tokens.Pieces.{Lexeme, bare, named, system, digits, quoted, operator, mark, sign_text}
use Rattle.sql_tree.specs.Printing as sql

abbrev pub Lexemes : Type 0
Lexemes = List Lexeme

-- what is written, and the tokens after what was read
abbrev pub Written : Type 0
Written = Option (List ℕ × Lexemes)

-- `&&` is AND, and `||` is OR
abbrev pub operator_text : List ℕ → List ℕ
operator_text o = if bytes_eq o (codes "&&") then codes "AND" else if bytes_eq o (codes "||") then codes "OR" else o

-- a token as it was said; TRUE and FALSE are numbers, and a text stands in single quotes
abbrev pub word_text : Lexeme → List ℕ
word_text (bare (Some k.True) w) = codes "1"
word_text (bare (Some k.False) w) = codes "0"
word_text (bare key w) = w
word_text (named w) = codes "`" ++ w ++ codes "`"
word_text (system w) = codes "@@" ++ w
word_text (digits w) = w
word_text (quoted w) = sql.quoted w
word_text (operator w) = operator_text w
word_text (mark s) = sign_text s

-- tokens with a blank before each
abbrev pub spelled : Lexemes → List ℕ
spelled [] = []
spelled (t ∷ ts) = codes " " ++ word_text t ++ spelled ts
