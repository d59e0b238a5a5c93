-- The order of rows that are lent, by their values in columns, is total.
use Rattle.std.specs.Ordering.{eq_by_cmp}
use Rattle.std.specs.Cmp.{IsTotalOrder, IsEquivalence}
use Rattle.std.proofs.lemmas.Cmp.{on_total, lists_total, eq_by_cmp_equiv}
use Rattle.operators.proofs.OrderLemmas.{value_cmp-total}
use Rattle.shard_store.specs.inner.Overlays.{lent_key, lent_cmp}

pub lent_cmp-total : IsTotalOrder lent_cmp
lent_cmp-total = on_total lent_key (lists_total value_cmp-total)

pub lent-equiv : IsEquivalence (eq_by_cmp lent_cmp)
lent-equiv = eq_by_cmp_equiv lent_cmp-total
