-- Ranges of keyspace ids, as Vitess has them. A range has its begin and not its end.
use Rattle.std.specs.Prelude.{◌≡◌, ℕ, Bool, true, not, ◌&&◌, IsTrue, List, Option, Some, None, count_by}
use Rattle.keyrange.specs.declared.KeyRange.{KeyRange}
pub use Rattle.keyrange.specs.Ids.{is_less, is_before, IsByteString}

abbrev pub is_before_end : List ℕ → Option (List ℕ) → Bool
is_before_end id None = true
is_before_end id (Some end) = is_before id end

-- a keyspace id lies in the range
abbrev pub has_id : KeyRange → List ℕ → Bool
has_id range id = not (is_before id range.begin) && is_before_end id range.end

-- some keyspace id lies in both
abbrev pub Overlap : KeyRange → KeyRange → Type 0
Overlap a b = (id : List ℕ) × IsByteString id × IsTrue (has_id a id && has_id b id)

-- each byte string lies in exactly one of the ranges
abbrev pub Cover : List KeyRange → Type 0
Cover ranges = (id : List ℕ) → IsByteString id → count_by (λ r. has_id r id) ranges ≡ 1
