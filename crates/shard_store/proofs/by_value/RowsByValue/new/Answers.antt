use Rattle.std.proofs.Common.{IsPermutation, subst}
use Rattle.std.proofs.lemmas.List.Sorted.{IsPermutation-sym, IsPermutation-map, IsPermutation-append_right}
use Rattle.shard_store.specs.inner.Joined.{stored_rows, rows_lent}
use Rattle.shard_store.proofs.by_value.RowsByValue.new.Goals as goal

pub returns-clause-rows : goal.returns-clause-rows
returns-clause-rows g c =
    let before = c.in_ok-sorted.sorted.items in
    let after = c.sort_by_value.new.rows.items in
    IsPermutation-append_right (stored_rows c.args.stored) (rows_lent after) (g.S.RowSource.to_come c.args.others)
    (subst (IsPermutation (rows_lent after)) c.in_ok-sorted.ensures.ok
    (IsPermutation-map (λ r. r.now) after before (IsPermutation-sym before after c.sort_by_value.ensures.permutation)))
