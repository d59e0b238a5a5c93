-- Bytes that ask for a cursor.
use Rattle.std.specs.Prelude.{◌≡◌, ℕ, List, ◌∷◌}

-- the byte of the flags isn't 0
abbrev pub AsksCursor : List ℕ → Type 0
AsksCursor bytes = (flags : ℕ) × (rest : List ℕ) × (bytes ≡ flags ∷ rest) × (flags ≡ 0 → ⊥)
