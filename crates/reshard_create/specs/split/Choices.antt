-- How ranges lie to each other.
use Rattle.std.specs.Prelude.{◌≡◌, ℕ, List, count_by, AllPairs}
use Rattle.std.specs.Ordering.{nat_cmp}
use Rattle.std.specs.Cmp.Lexicographic.{slice_cmp}
use Rattle.std.specs.declared.cmp.Ordering.{Ordering}
use Rattle.keyrange.specs.declared.KeyRange.{KeyRange}
use Rattle.keyrange.specs.Ranges.{Overlap, has_id, IsByteString}

-- no two of the ranges overlap
abbrev pub DoNotOverlap : List KeyRange → Type 0
DoNotOverlap ranges = AllPairs (λ a b. Overlap a b → ⊥) ranges

-- an id lies in so many of the ranges
abbrev pub holders : List ℕ → List KeyRange → ℕ
holders id ranges = count_by (λ r. has_id r id) ranges

-- each id lies in as many of the ones as of the others
abbrev pub HoldTheSame : List KeyRange → List KeyRange → Type 0
HoldTheSame a b = (id : List ℕ) → IsByteString id → holders id a ≡ holders id b

-- ranges by their begins
abbrev pub begin_cmp : KeyRange → KeyRange → Ordering
begin_cmp a b = slice_cmp nat_cmp a.begin b.begin
