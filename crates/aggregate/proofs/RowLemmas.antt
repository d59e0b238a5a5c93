-- Rows that are the same are as long.
use Rattle.std.proofs.Common.{◌≡◌, ◌≢◌, false, length, refl, ap, Bool, true}
use Rattle.vt_value.specs.Values.{Row, same_row}
use Rattle.aggregate.specs.inner.KeyLemmas.{same_row-same}

lengths_by : (a b : Row) (t : Bool) → same_row a b ≡ t → length a ≢ length b → t ≡ false
lengths_by a b true e n = absurd (n (ap length (same_row-same a b e)))
lengths_by a b false e n = refl

pub other_length : (a b : Row) → length a ≢ length b → same_row a b ≡ false
other_length a b n = lengths_by a b (same_row a b) refl n
