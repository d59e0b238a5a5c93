-- INSERT with SET, as INSERT of one row. By 'INSERT Statement' of MySQL's reference manual.
use Rattle.std.specs.Prelude.{ℕ, Bool, true, false, ◌||◌, List, [], ◌∷◌, ◌++◌, codes, Some, None, if◌then◌else◌}
use Rattle.client_statements.specs.declared.tokens.token.Keyword.TheVariants as k
use Rattle.client_statements.specs.tokens.Pieces.{Lexeme, bare}
use Rattle.client_words.specs.Spelling.{Lexemes, Written, spelled}
use Rattle.client_words.specs.Marks.{is_comma, is_equal, is_semicolon, without_into}

-- the columns of assignments, with the commas between them; of one whose sign is behind, none
unfoldable pub columns_in : Bool → Lexemes → Lexemes
columns_in after_sign [] = []
columns_in after_sign (t ∷ rest) =
    if is_semicolon t then []
    else if is_comma t then t ∷ columns_in false rest
    else if after_sign || is_equal t then columns_in true rest
    else t ∷ columns_in false rest

-- their values
unfoldable pub values_in : Bool → Lexemes → Lexemes
values_in after_sign [] = []
values_in after_sign (t ∷ rest) =
    if is_semicolon t then []
    else if is_comma t then t ∷ values_in false rest
    else if after_sign then t ∷ values_in true rest
    else values_in (is_equal t) rest

unfoldable pub after_sets : Lexemes → Lexemes
after_sets [] = []
after_sets (t ∷ rest) = if is_semicolon t then t ∷ rest else after_sets rest

abbrev pub row_text : Lexeme → Lexemes → List ℕ
row_text table sets =
    codes " INSERT INTO" ++ spelled (table ∷ []) ++ codes " (" ++ spelled (columns_in false sets) ++ codes " ) VALUES ("
    ++ spelled (values_in false sets) ++ codes " )"

unfoldable pub row_at : Lexemes → Written
row_at (t ∷ bare (Some k.Set) w ∷ rest) = Some (row_text t rest, after_sets rest)
row_at _ = None

-- INSERT [INTO] table SET column = value,..
unfoldable pub insert_set_at : Lexemes → Written
insert_set_at (bare (Some k.Insert) w ∷ rest) = row_at (without_into rest)
insert_set_at _ = None
