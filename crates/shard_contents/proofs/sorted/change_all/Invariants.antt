use Rattle.std.proofs.Common.{◌<◌, length, take, IsPermutation}
use Rattle.vschema.specs.Database.{Database, rows_of, all_applied}
use Rattle.shard_contents.proofs.sorted.change_all.Given as goal

-- the changes so far are done
abbrev pub invariant-loop-done : goal.invariant-loop-done
invariant-loop-done l =
    (db : Database) → l.table < length db → IsPermutation l.fn.rows.rows (rows_of db l.table)
    → IsPermutation l.rows.rows (rows_of (all_applied (take l.done-index l.changes) db) l.table)
