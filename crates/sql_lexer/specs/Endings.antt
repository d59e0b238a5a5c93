-- A text ends after a statement, with one semicolon at most.
use Rattle.std.specs.Prelude.{Bool, true, false, List, [], ◌∷◌}
use Rattle.sql_lexer.specs.declared.token.Sign.TheVariants.{Semicolon}
use Rattle.sql_lexer.specs.Lexemes.{Lexeme, sign}

-- of what comes after a statement: a text may end there
abbrev pub is_end : List Lexeme → Bool
is_end [] = true
is_end (sign Semicolon ∷ []) = true
is_end _ = false
