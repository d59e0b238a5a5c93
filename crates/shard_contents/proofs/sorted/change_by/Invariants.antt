use Rattle.std.proofs.Common.{◌<◌, length, take, IsPermutation}
use Rattle.vschema.specs.Database.{Database, rows_of, all_applied}
use Rattle.shard_contents.specs.inner.Earlier.{changes_by}
use Rattle.shard_contents.proofs.sorted.change_by.Given as goal

-- what the entries so far change is done
abbrev pub invariant-loop-entry : goal.invariant-loop-entry
invariant-loop-entry l =
    (db : Database) → l.table < length db → IsPermutation l.fn.rows.rows (rows_of db l.table)
    → IsPermutation l.rows.rows (rows_of (all_applied (changes_by (take l.entry-index l.entries)) db) l.table)
