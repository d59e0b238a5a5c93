-- The rows that LIKE computes: whether pieces fit a text from each position on. No public clause cites this file.
use Rattle.std.specs.Prelude.{ℕ, Bool, ◌&&◌, List, [], ◌∷◌}
use Rattle.client_statements.specs.declared.likes.Piece.{Piece}
use Rattle.client_statements.specs.Likes.{is_any, fits_step, like_fits}

-- from each position on, the end too
abbrev pub row_of : List Piece → List ℕ → List Bool
row_of ps [] = like_fits ps [] ∷ []
row_of ps (c ∷ text) = like_fits ps (c ∷ text) ∷ row_of ps text

-- the row of one more piece, before a byte, by what the pieces fit from here and from the next position on, and by the row of the next position
abbrev pub onto_row : Piece → ℕ → Bool → List Bool → List Bool → List Bool
onto_row p c x (y ∷ ys) (z ∷ zs) = fits_step p c x z y ∷ z ∷ zs
onto_row p c x _ _ = []

abbrev pub next_row : Piece → List ℕ → List Bool → List Bool
next_row p text [] = []
next_row p [] (x ∷ xs) = (is_any p && x) ∷ []
next_row p (c ∷ text) (x ∷ xs) = onto_row p c x xs (next_row p text xs)
