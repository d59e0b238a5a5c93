-- Pieces of patterns that fit the same names, and how many bytes of a name pieces need. No public clause cites this file.
use Rattle.std.specs.Prelude.{◌≡◌, ℕ, ◌+◌, Bool, false, ◌==◌, ◌&&◌, List, [], ◌∷◌}
use Rattle.client_statements.specs.declared.likes.Piece.{Piece}
use Rattle.client_statements.specs.declared.likes.Piece.TheVariants.{Any, One, Byte}
use Rattle.client_statements.specs.Likes.{pieces, like_fits}

abbrev pub FitSame : List Piece → List Piece → Type 0
FitSame ps qs = (name : List ℕ) → like_fits ps name ≡ like_fits qs name

-- a pattern was read as these
abbrev pub IsReadAs : List ℕ → List Piece → Type 0
IsReadAs pattern ps = FitSame ps (pieces pattern)

-- a `%` before another
abbrev pub is_left_out : ℕ → List ℕ → Bool
is_left_out b [] = false
is_left_out b (c ∷ rest) = (b == 0x25) && (c == 0x25)

abbrev pub needed_by : Piece → ℕ
needed_by Any = 0
needed_by One = 1
needed_by (Byte b) = 1

-- no shorter name has a byte for each of them
abbrev pub needed : List Piece → ℕ
needed [] = 0
needed (p ∷ ps) = needed_by p + needed ps
