use Rattle.std.proofs.Common.{◌≡◌, ◌∙◌, ◌≤◌, ◌^◌, List, length, filter, refl, sym, subst, ap}
use Rattle.std.specs.Prelude.{IfOk}
use Rattle.vt_value.specs.Values.{Row}
use Rattle.vschema.specs.declared.schema.Join.{Join}
use Rattle.vschema.specs.Database.{rows_of, all_applied}
use Rattle.vschema.specs.Sources.{pairs_of}
use Rattle.shard_store.specs.Groups.{CanBeSummed}
use Rattle.shard_store.specs.Queries.{IsAnswer}
use Rattle.shard_store.proofs.DistinctRows.{filter_true}
use Rattle.shard_contents.specs.inner.Stores.{is_selected}
use Rattle.shard_contents.specs.declared.transaction_rows.RowSelection.TheVariants.{All}
use Rattle.shard_contents.proofs.transaction_rows.select_pairs_in_transaction.Goals as goal

same : (xs ys zs : List Row) → zs ≡ xs → filter (is_selected All) xs ≡ filter (is_selected All) ys → zs ≡ ys
same xs ys zs is e = is ∙ sym (filter_true xs) ∙ e ∙ filter_true ys

-- pairs of rows that are the same
same_pairs : (j : Join) (a b c d : List Row) → a ≡ c → b ≡ d → pairs_of j a b ≡ pairs_of j c d
same_pairs j a b c d e f = ap (λ (rows : List Row). pairs_of j rows b) e ∙ ap (pairs_of j c) f

pub select_joined-requires : goal.select_joined-requires
select_joined-requires c κs =
    let db = all_applied c.args.changes.now c.args.store.now.rows in
    let firsts = same c.in_ok-firsts.firsts.rows (rows_of db c.args.query.now.table) c.all.result c.all.ensures c.in_ok-firsts.ensures.ok in
    let seconds = same c.in_ok-seconds.seconds.rows (rows_of db c.args.join.table) c.all-2.result c.all-2.ensures c.in_ok-seconds.ensures.ok in
    let pairs = same_pairs c.args.join c.all.result c.all-2.result (rows_of db c.args.query.now.table) (rows_of db c.args.join.table) firsts seconds in (
      (refl, tt),
      λ aggregated few. subst CanBeSummed (sym pairs) (c.requires.summed aggregated (subst (λ (rows : List Row). length rows ≤ 2 ^ 60) pairs few)),
    )

pub returns : goal.returns
returns c =
    record {
      ok = (
          let db = all_applied c.args.changes.now c.args.store.now.rows in
          let firsts = same c.in_ok-firsts.firsts.rows (rows_of db c.args.query.now.table) c.all.result c.all.ensures c.in_ok-firsts.ensures.ok in
          let seconds = same c.in_ok-seconds.seconds.rows (rows_of db c.args.join.table) c.all-2.result c.all-2.ensures c.in_ok-seconds.ensures.ok in
          let pairs = same_pairs c.args.join c.all.result c.all-2.result (rows_of db c.args.query.now.table) (rows_of db c.args.join.table) firsts seconds in
          subst (λ (rows : List Row). IfOk c.select_joined.result (IsAnswer c.args.query.now rows)) pairs c.select_joined.ensures.ok
          );
    }
