use Rattle.std.proofs.Common.{◌≡◌, ◌∙◌, ℕ, map, filter, ap, sym}
use Rattle.sql_eval.specs.RowChange.TheVariants.{Removed}
use Rattle.sql_eval.specs.Database.{rows_of}
use Rattle.sql_eval.specs.Conditions.{is_kept}
use Rattle.sql_eval.specs.Writes.{written_table}
use Rattle.sql_eval.proofs.ChangeLemmas.{deletes}
use Rattle.shard_store.proofs.stored.StoredTables.changes.Goals as goal

pub returns-in_ok-removals-in-Delete-clause-ok : goal.returns-in_ok-removals-in-Delete-clause-ok
returns-in_ok-removals-in-Delete-clause-ok c =
    let n = c.in-Delete.ordinal in
    let condition = c.in-Delete.condition in
    let here : written_table c.args.write.now ≡ n = ap written_table c.in-Delete.is in
    deletes c.args.table.now c.args.write.now n condition (rows_of c.args.self.now.rows (written_table c.args.write.now)) _ c.in-Delete.is
    (c.in_ok-removals-in-Delete.ensures.ok ∙ ap (λ (k : ℕ). map (Removed n) (filter (is_kept condition) (rows_of c.args.self.now.rows k))) (sym here))
