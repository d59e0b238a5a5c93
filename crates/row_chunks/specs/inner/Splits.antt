-- How a chunk is split, and the chunk that a key belongs into.
use Rattle.std.specs.Prelude.{◌≡◌, ◌+◌, ℕ, List, [], ◌∷◌, ◌++◌, IsSome, if◌then◌else◌}
use Rattle.std.specs.List.{AllByRecursion}
use Rattle.std.specs.Ordering.{is_gt}
use Rattle.std.specs.declared.cmp.Ordering.{Ordering}
use Rattle.std.specs.declared.cmp.Ordering.TheVariants.{Less}
use Rattle.std.specs.Map.{lookup}
use Rattle.std.specs.BTreeMap.{is_at}
use Rattle.row_chunks.specs.Chunks.{ChunkView, AreBelow, AreFrom}

module _ {K X : Type 0} where
  module _ (cmp : K → K → Ordering) where
    -- each key is above this one
    abbrev pub AreAbove : K → List (K × X) → Type 0
    AreAbove k es = AllByRecursion (λ e. cmp k e.0 ≡ Less) es

    -- a chunk's upper entries are taken out, as a chunk that begins at one of its keys
    pub record IsSplit (c lower upper : ChunkView K X) : Type 0 where
      pub parts : c.entries ≡ lower.entries ++ upper.entries
      pub rises : cmp c.from upper.from ≡ Less
      pub below : AreBelow cmp upper.from lower.entries
      pub above : AreFrom cmp upper.from upper.entries
      pub there : IsSome (lookup (is_at (cmp upper.from)) c.entries)

  -- how many chunks, from the first on, begin at a key or before it: the key belongs into the last of them
  abbrev pub begun : (K → K → Ordering) → K → List (ChunkView K X) → ℕ
  begun cmp k [] = 0
  begun cmp k (c ∷ chunks) = if is_gt (cmp c.from k) then 0 else begun cmp k chunks + 1
