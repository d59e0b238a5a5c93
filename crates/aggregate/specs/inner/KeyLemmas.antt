-- Equal group values are one, and are hashed alike.
use Rattle.std.proofs.Common.{◌≡◌, true, ap}
use Rattle.std.specs.Cmp.{IsEquivalence, Equal-is}
use Rattle.std.specs.Cmp.Lexicographic.{slice_cmp}
use Rattle.std.proofs.lemmas.Cmp.{eq_by_cmp_equiv, lists_total}
use Rattle.vt_value.specs.Values.{Row, value_cmp, same_row}
use Rattle.operators.proofs.OrderLemmas.{value_cmp-total, rows_cmp-same}
use Rattle.aggregate.specs.Keys.{row_writes}

pub same_row-equiv : IsEquivalence same_row
same_row-equiv = eq_by_cmp_equiv (lists_total value_cmp-total)

pub same_row-same : (a b : Row) → same_row a b ≡ true → a ≡ b
same_row-same a b e = rows_cmp-same a b ((Equal-is (slice_cmp value_cmp a b)).0 e)

pub hashed_alike : (a b : Row) → same_row a b ≡ true → row_writes a ≡ row_writes b
hashed_alike a b e = ap row_writes (same_row-same a b e)
