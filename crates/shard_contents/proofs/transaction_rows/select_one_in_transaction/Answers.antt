use Rattle.std.proofs.Common.{◌≤◌, ◌^◌, length, ap, sym, subst, arith}
use Rattle.vschema.specs.Database.{rows_of, all_applied}
use Rattle.shard_store.specs.Groups.{CanBeSummed}
use Rattle.shard_store.specs.Conditions.{is_kept}
use Rattle.shard_store.proofs.Sums.{filter_summed}
use Rattle.shard_contents.proofs.Wanted.{longer}
use Rattle.shard_contents.proofs.transaction_rows.select_one_in_transaction.Goals as goal

pub select-requires : goal.select-requires
select-requires c =
    let db = c.args.store.now.rows in
    let n = c.args.query.now.table in
    let rows = rows_of (all_applied c.args.changes.now db) n in
    let most = longer c.args.changes.now db n c.requires.there in
    let same = ap length c.as_slice-list.ensures.value in
    let few : length rows ≤ 2 ^ 60 = omega (arith, most, same, c.row_count_of.ensures, c.if-row_count_of-list-gt-MOST_ROWS.false) in
    record {
      summed = λ aggregated.
          subst CanBeSummed (sym c.in_ok-overlaid.ensures.ok)
          (filter_summed (is_kept c.args.query.now.filter) rows (c.requires.summed aggregated few));
    }
