-- A stream of bytes in chunks, one after another.
use Rattle.std.specs.Prelude.{ℕ, ◌<◌, ◌≤◌, List, length}
use Rattle.std.specs.List.{AllByRecursion}

-- none is empty, and each has at most 16,384 bytes
abbrev pub IsChunk : List ℕ → Type 0
IsChunk bytes = (0 < length bytes) × (length bytes ≤ 16384)

abbrev pub AreChunks : List (List ℕ) → Type 0
AreChunks chunks = AllByRecursion IsChunk chunks
