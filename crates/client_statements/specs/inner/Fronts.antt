-- The bytes at the front of a text that doesn't begin with SET.
use Rattle.std.specs.Prelude.{ℕ, Bool, not, ◌&&◌, ◌==◌}
use Rattle.sql_lexer.specs.Lexemes.{is_letter}

-- a first byte that begins a word, and a third one that isn't the last letter of SET
abbrev pub is_no_set : ℕ → ℕ → Bool
is_no_set first third = is_letter first && not (third == 0x74) && not (third == 0x54)
