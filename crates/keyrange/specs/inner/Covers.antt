-- How an overlap and a cover are decided: by the ids that are edges.
use Rattle.std.specs.Prelude.{ℕ, Bool, true, ◌&&◌, ◌==◌, List, Option, Some, None, IfSome, count_by, if◌then◌else◌}
use Rattle.keyrange.specs.declared.KeyRange.{KeyRange}
use Rattle.keyrange.specs.Ranges.{is_before, has_id, IsByteString}

-- the later of two ids
abbrev pub later : List ℕ → List ℕ → List ℕ
later a b = if is_before a b then b else a

-- the id lies in exactly one of the ranges
abbrev pub is_in_one : List KeyRange → List ℕ → Bool
is_in_one ranges id = count_by (λ r. has_id r id) ranges == 1

abbrev pub is_end_in_one : List KeyRange → Option (List ℕ) → Bool
is_end_in_one ranges None = true
is_end_in_one ranges (Some end) = is_in_one ranges end

abbrev pub has_edges_in_one : List KeyRange → KeyRange → Bool
has_edges_in_one ranges range = is_in_one ranges range.begin && is_end_in_one ranges range.end

abbrev pub HasByteEdges : KeyRange → Type 0
HasByteEdges range = IsByteString range.begin × IfSome range.end IsByteString
