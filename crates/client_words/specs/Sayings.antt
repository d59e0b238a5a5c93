-- The text of the grammar that says what a client says.
use Rattle.std.specs.Prelude.{◌≡◌, ℕ, List, [], ◌∷◌, ◌++◌, Option, Some, None}
use Rattle.client_statements.specs.declared.tokens.token.Token.{Token}
use Rattle.client_statements.specs.tokens.Pieces.{Lexeme, lexemes_of}
use Rattle.client_statements.specs.tokens.Tokens.{HasTokens}
use Rattle.vschema.specs.declared.schema.VSchema.{VSchema}
use Rattle.client_words.specs.Spelling.{Lexemes, spelled}
use Rattle.client_words.specs.Aliases.{Names, unaliased}
use Rattle.client_words.specs.Distinct.{parts_of, group_text}
use Rattle.client_words.specs.Forms.{table_of, form_at}
use Rattle.client_words.specs.Numbers.{with_numbers}

-- By the table of the statement its tokens become this text: front to back, each form what is written in its place, and each other token as it is spelled
pub data Becomes (table : Option (List ℕ)) : Lexemes → List ℕ → Type 0 where
  end : Becomes table [] []
  form : {t : Lexeme} {ts rest : Lexemes} {written more : List ℕ} → form_at table (t ∷ ts) ≡ Some (written, rest) → Becomes table rest more
      → Becomes table (t ∷ ts) (written ++ more)
  word : {t : Lexeme} {ts : Lexemes} {more : List ℕ} → form_at table (t ∷ ts) ≡ None → Becomes table ts more → Becomes table (t ∷ ts) (spelled (t ∷ []) ++ more)

-- The tokens of a statement become this text: those before ORDER BY and LIMIT, then the groups of SELECT DISTINCT, then the others.
pub data IsWhole (tokens : Lexemes) : List ℕ → Type 0 where
  whole : {front tail : List ℕ} → Becomes (table_of tokens) (parts_of tokens).front front → Becomes (table_of tokens) (parts_of tokens).tail tail
      → IsWhole tokens (front ++ group_text (parts_of tokens).groups ++ tail)

-- the tokens of a text without aliases and without quotes round numbers, and the names of its columns
abbrev pub plain_of : VSchema → List ℕ → List Token → Lexemes × Names
plain_of schema text tokens = unaliased schema (lexemes_of text (with_numbers schema text tokens))

-- What a client says is this text, and gives its columns these names, in order. Its tokens, without comments, become it.
pub data IsSaidAs (schema : VSchema) : List ℕ → List ℕ → Names → Type 0 where
  said : {text whole : List ℕ} {tokens : List Token} → HasTokens text tokens
      → IsWhole (plain_of schema text tokens).0 whole → IsSaidAs schema text whole (plain_of schema text tokens).1
