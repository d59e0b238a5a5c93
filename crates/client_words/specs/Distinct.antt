-- SELECT DISTINCT of columns gives each of their rows once, as groups of these columns do. By 'SELECT Statement' and 'DISTINCT Optimization' of MySQL's
-- reference manual.
use Rattle.std.specs.Prelude.{ℕ, Bool, true, false, List, [], ◌∷◌, ◌++◌, codes, Some, if◌then◌else◌}
use Rattle.client_statements.specs.declared.tokens.token.Keyword.TheVariants as k
use Rattle.client_statements.specs.declared.tokens.token.Sign.TheVariants.{Semicolon}
use Rattle.client_statements.specs.tokens.Pieces.{Lexeme, bare, mark}
use Rattle.client_words.specs.Spelling.{Lexemes, spelled}
use Rattle.client_words.specs.Marks.{is_from}

-- ORDER BY, LIMIT or the end
unfoldable pub ends_filter : Lexeme → Bool
ends_filter (bare (Some k.Order) w) = true
ends_filter (bare (Some k.Limit) w) = true
ends_filter (mark Semicolon) = true
ends_filter _ = false

-- the tokens before ORDER BY and LIMIT, and those from there on
unfoldable pub up_to_order : Lexemes → Lexemes
up_to_order [] = []
up_to_order (t ∷ rest) = if ends_filter t then [] else t ∷ up_to_order rest

unfoldable pub order_on : Lexemes → Lexemes
order_on [] = []
order_on (t ∷ rest) = if ends_filter t then t ∷ rest else order_on rest

-- the tokens before FROM
unfoldable pub up_to_from : Lexemes → Lexemes
up_to_from [] = []
up_to_from (t ∷ rest) = if is_from t then [] else t ∷ up_to_from rest

-- A text's tokens in two, between which groups are written of these columns: none, if it isn't distinct.
pub record Parts : Type 0 where
  pub front : Lexemes
  pub groups : Lexemes
  pub tail : Lexemes

unfoldable pub parts_of : Lexemes → Parts
parts_of (bare (Some k.Select) w ∷ bare (Some k.Distinct) v ∷ ts) =
    record { front = bare (Some k.Select) w ∷ up_to_order ts; groups = up_to_from ts; tail = order_on ts }
parts_of ts = record { front = ts; groups = []; tail = [] }

abbrev pub group_text : Lexemes → List ℕ
group_text [] = []
group_text (t ∷ ts) = codes " GROUP BY" ++ spelled (t ∷ ts)
