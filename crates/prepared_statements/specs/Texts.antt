-- Texts with holes, and the texts that have literals in their place.
use Rattle.std.specs.Prelude.{◌≡◌, ℕ, pos, negsuc, ◌==◌, ◌≤◌, ◌-◌, ◌&&◌, Bool, true, false, List, [], ◌∷◌, ◌++◌, length, slice_get, Option, Some, None, if◌then◌else◌}
use Rattle.sql_lexer.specs.Value.{Value}
use Rattle.sql_lexer.specs.Value.TheVariants.{Null, Int}
use Rattle.sql_lexer.specs.declared.token.Token.{Token}
use Rattle.sql_lexer.specs.declared.token.TokenKind.{TokenKind}
use Rattle.sql_lexer.specs.declared.token.TokenKind.TheVariants.{Keyword}
use Rattle.sql_lexer.specs.declared.token.Keyword.TheVariants as k
use Rattle.sql_lexer.specs.Tokens.{Lexes}
use Rattle.sql_tree.specs.declared.Statement.{Statement}
use Rattle.sql_tree.specs.Printing.{value_text}
use Rattle.sql_parser.specs.Grammar.{Reads}
use Rattle.prepared_statements.specs.declared.cutting.Place.{Place}
use Rattle.prepared_statements.specs.declared.cutting.Place.TheVariants.{Outside, Inside, Escaped}

-- ---- pieces

-- where a byte of a text stands after this one: outside of quotes, between them, or after a backslash there
abbrev pub place_after : Place → ℕ → Place
place_after Outside b = if b == 0x27 then Inside else Outside
place_after Inside b = if b == 0x27 then Outside else if b == 0x5C then Escaped else Inside
place_after Escaped b = Inside

abbrev pub is_outside : Place → Bool
is_outside Outside = true
is_outside Inside = false
is_outside Escaped = false

-- a `?` outside of quotes
abbrev pub is_hole : Place → ℕ → Bool
is_hole place b = is_outside place && (b == 0x3F)

abbrev pub with_first : ℕ → List (List ℕ) → List (List ℕ)
with_first b [] = (b ∷ []) ∷ []
with_first b (p ∷ pieces) = (b ∷ p) ∷ pieces

-- the bytes before, between and after the holes
abbrev pub cut_from : Place → List ℕ → List (List ℕ)
cut_from place [] = [] ∷ []
cut_from place (b ∷ bytes) = if is_hole place b then [] ∷ cut_from Outside bytes else with_first b (cut_from (place_after place b) bytes)

abbrev pub pieces_of : List ℕ → List (List ℕ)
pieces_of text = cut_from Outside text

-- ---- filled texts

-- The text in which each hole has the literal of its value, with a blank before and after it: the grammar's own printed form.
abbrev pub filled : List (List ℕ) → List Value → List ℕ
filled [] values = []
filled (p ∷ pieces) [] = p
filled (p ∷ pieces) (v ∷ values) = p ++ 0x20 ∷ (value_text v ++ 0x20 ∷ filled pieces values)

-- ---- texts that may be prepared

abbrev pub is_count_word : TokenKind → Bool
is_count_word (Keyword k.Limit) = true
is_count_word (Keyword k.Offset) = true
is_count_word _ = false

abbrev pub is_count_end : Option Token → Bool
is_count_end None = false
is_count_end (Some t) = is_count_word t.kind

-- what comes after these tokens is a count
abbrev pub counts_after : List Token → Bool
counts_after tokens = is_count_end (slice_get tokens (length tokens - 1))

-- What a hole after this piece is tried with: 0 after LIMIT and OFFSET, else this literal. The piece is whole tokens.
pub data TriesHole (literal : Value) (piece : List ℕ) : Value → Type 0 where
  tries : {tokens : List Token} → Lexes piece tokens → TriesHole literal piece (if counts_after tokens then Int (pos 0) else literal)

pub data Tries (literal : Value) : List (List ℕ) → List Value → Type 0 where
  last : {piece : List ℕ} {tokens : List Token} → Lexes piece tokens → Tries literal (piece ∷ []) []
  next : {piece : List ℕ} {pieces : List (List ℕ)} {v : Value} {values : List Value} → TriesHole literal piece v → Tries literal pieces values
      → Tries literal (piece ∷ pieces) (v ∷ values)

-- the text with what its holes are tried with
pub record TriedText (literal : Value) (pieces : List (List ℕ)) (text : List ℕ) : Type 0 where
  pub values : List Value
  pub tries : Tries literal pieces values
  pub is : text ≡ filled pieces values

-- with the literal in its holes it is this statement
pub record ReadsTried (literal : Value) (pieces : List (List ℕ)) (statement : Statement) : Type 0 where
  pub values : List Value
  pub tries : Tries literal pieces values
  pub reads : Reads (filled pieces values) statement

-- A text that may be prepared: its holes stand where the grammar has a literal or a count. Where -1 stands, each literal does, and nothing else is
-- allowed to be -1. The statement is the one with NULL in the holes of literals.
pub record MayBePrepared (text : List ℕ) (pieces : List (List ℕ)) (statement : Statement) : Type 0 where
  pub cut : pieces ≡ pieces_of text
  pub few : length pieces ≤ 4097
  pub literals : Statement
  pub places : ReadsTried (Int (negsuc 0)) pieces literals
  pub blank : ReadsTried Null pieces statement
