use Rattle.std.proofs.Common.{◌≡◌, ◌≤◌, ◌^◌, List, length, sym, subst}
use Rattle.std.specs.Prelude.{IfOk}
use Rattle.vt_value.specs.Values.{Row}
use Rattle.vschema.specs.Database.{all_applied}
use Rattle.vschema.specs.Sources.{source_rows}
use Rattle.shard_store.specs.Groups.{CanBeSummed}
use Rattle.shard_store.specs.Queries.{IsAnswer}
use Rattle.shard_contents.proofs.SourceRows.{sources_kept}
use Rattle.shard_contents.proofs.transaction_rows.select_in_transaction.Goals as goal

pub select-requires : goal.select-requires
select-requires c =
    let db = c.args.store.now.rows in
    let same : source_rows c.args.query.now (all_applied c.args.changes.now db) ≡ source_rows c.args.query.now db =
    sources_kept c.args.changes.now db c.args.query.now (c.changes_source.ensures c.if-not-changes_source.true) in
    record {
      summed = λ aggregated.
          subst CanBeSummed same (c.requires.summed aggregated (subst (λ (rows : List Row). length rows ≤ 2 ^ 60) (sym same) c.requires.few));
    }

pub returns-then-not-changes_source : goal.returns-then-not-changes_source
returns-then-not-changes_source c =
    record {
      ok = (
          let db = c.args.store.now.rows in
          subst (λ (rows : List Row). IfOk c.select.result (IsAnswer c.args.query.now rows))
          (sym (sources_kept c.args.changes.now db c.args.query.now (c.changes_source.ensures c.if-not-changes_source.true))) c.select.ensures.ok
          );
    }
