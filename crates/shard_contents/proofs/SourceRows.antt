-- The rows that a query is over: those of its table, or the pairs of its two tables.
use Rattle.std.proofs.Common.{◌≡◌, List, false, ap, ◌∙◌, Option, Some, None}
use Rattle.std.specs.List.{list_any}
use Rattle.vschema.specs.declared.schema.Join.{Join}
use Rattle.vschema.specs.declared.schema.Query.{Query}
use Rattle.vschema.specs.declared.changes.RowChange.{RowChange}
use Rattle.vschema.specs.Database.{Database, rows_of, all_applied}
use Rattle.vschema.specs.Sources.{pairs_of, with_pairs, source_rows, join_tables, source_tables}
use Rattle.shard_contents.proofs.OneTable.{no_or, is_of, others_kept}

-- changes of other tables leave them
pub sources_kept : (changes : List RowChange) (db : Database) (q : Query) → list_any (λ n. list_any (is_of n) changes) (source_tables q) ≡ false
    → source_rows q (all_applied changes db) ≡ source_rows q db
sources_kept changes db q h = by q.join (no_or (list_any (is_of q.table) changes) (list_any (λ n. list_any (is_of n) changes) (join_tables q.join)) h).1
  where
    firsts : rows_of (all_applied changes db) q.table ≡ rows_of db q.table
    firsts = others_kept changes db q.table (no_or (list_any (is_of q.table) changes) (list_any (λ n. list_any (is_of n) changes) (join_tables q.join)) h).0

    by : (join : Option Join) → list_any (λ n. list_any (is_of n) changes) (join_tables join) ≡ false
        → with_pairs join (rows_of (all_applied changes db) q.table) (all_applied changes db) ≡ with_pairs join (rows_of db q.table) db
    by None none = firsts
    by (Some j) none =
        ap (λ rows. pairs_of j rows (rows_of (all_applied changes db) j.table)) firsts
        ∙ ap (pairs_of j (rows_of db q.table)) (others_kept changes db j.table (no_or (list_any (is_of j.table) changes) false none).0)
