use Rattle.std.proofs.Common.{◌≡◌, true, subst}
use Rattle.std.specs.Ordering.{is_lt}
use Rattle.std.specs.Cmp.Lexicographic.{slice_cmp}
use Rattle.vt_value.specs.Values.{Row, value_cmp}
use Rattle.shard_store.specs.inner.Gaps.{is_below_lent}
use Rattle.shard_store.proofs.Gaps.{both}
use Rattle.shard_store.proofs.removed_rows.RemovedRows.gap_after.Goals as goal

pub returns : goal.returns
returns c = λ key inside.
    let h = both (is_lt (slice_cmp value_cmp c.args.key.now.values key)) (is_below_lent c.first_past.result key) inside in
    c.first_past.ensures key (subst (λ (k : Row). is_lt (slice_cmp value_cmp k key) ≡ true) c.requires h.0) h.1
