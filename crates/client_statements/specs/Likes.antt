-- Which names a pattern of LIKE fits. After 'String Comparison Functions and Operators' of MySQL's reference manual.
use Rattle.std.specs.Prelude.{ℕ, Bool, true, false, ◌&&◌, ◌||◌, ◌==◌, List, [], ◌∷◌, if◌then◌else◌}
use Rattle.std.specs.Char.{to_ascii_lowercase}
use Rattle.client_statements.specs.declared.likes.Piece.{Piece}
use Rattle.client_statements.specs.declared.likes.Piece.TheVariants.{Any, One, Byte}

abbrev pub pattern_piece : ℕ → Piece
pattern_piece b = if b == 0x25 then Any else if b == 0x5F then One else Byte b

-- the parts of a pattern; a byte after a backslash is itself
abbrev pub pieces : List ℕ → List Piece
pieces [] = []
pieces (b ∷ []) = pattern_piece b ∷ []
pieces (b ∷ c ∷ bytes) = if b == 0x5C then Byte c ∷ pieces bytes else pattern_piece b ∷ pieces (c ∷ bytes)

abbrev pub is_any : Piece → Bool
is_any Any = true
is_any One = false
is_any (Byte b) = false

-- Whether a piece and those after it fit a byte and those after it: `%` fits no byte, and then those after it fit all; or one more. `_`
-- and a byte fit one, and then those after it fit the bytes after that.
abbrev pub fits_step : Piece → ℕ → Bool → Bool → Bool → Bool
fits_step Any c skipped stayed passed = skipped || stayed
fits_step One c skipped stayed passed = passed
fits_step (Byte b) c skipped stayed passed = (to_ascii_lowercase c == to_ascii_lowercase b) && passed

abbrev pub like_fits : List Piece → List ℕ → Bool
like_fits [] [] = true
like_fits [] (c ∷ text) = false
like_fits (p ∷ ps) [] = is_any p && like_fits ps []
like_fits (p ∷ ps) (c ∷ text) = fits_step p c (like_fits ps (c ∷ text)) (like_fits (p ∷ ps) text) (like_fits ps text)

unfoldable pub is_like : List ℕ → List ℕ → Bool
is_like pattern name = like_fits (pieces pattern) name
