-- The word that names the ranges of a keyspace's shards.
use Rattle.std.specs.Prelude.{◌≤◌, ℕ, List, [], ◌∷◌, ◌++◌, length, IsPermutation, IsSorted}
use Rattle.std.specs.Ordering.{nat_cmp}
use Rattle.std.specs.Cmp.Lexicographic.{slice_cmp}
use Rattle.std.specs.declared.cmp.Ordering.{Ordering}
use Rattle.keyrange.specs.declared.KeyRange.{KeyRange}
use Rattle.keyrange.specs.Names.{IsNameOf}
use Rattle.keyrange.specs.Ranges.{Cover}

-- the text has the names of one or more ranges, with commas between them
pub data IsListOf : List ℕ → List KeyRange → Type 0 where
  last : {name : List ℕ} {range : KeyRange} → IsNameOf name range → IsListOf name (range ∷ [])
  more : {name rest : List ℕ} {range : KeyRange} {ranges : List KeyRange} → IsNameOf name range → IsListOf rest ranges
      → IsListOf (name ++ 0x2C ∷ rest) (range ∷ ranges)

-- ranges are in the order of their begins
abbrev pub range_cmp : KeyRange → KeyRange → Ordering
range_cmp a b = slice_cmp nat_cmp a.begin b.begin

-- The text names these ranges, in some order. They are at most 64, stand in the order of their begins, and each id lies in exactly
-- one of them.
pub record NamesPartition (text : List ℕ) (ranges : List KeyRange) : Type 0 where
  pub written : List KeyRange
  pub named : IsListOf text written
  pub same : IsPermutation written ranges
  pub sorted : IsSorted range_cmp ranges
  pub few : length ranges ≤ 64
  pub cover : Cover ranges
