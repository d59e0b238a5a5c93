use Rattle.std.proofs.Common.{◌<◌, ◌++◌, List, length, sym, subst, IsPermutation}
use Rattle.std.specs.Prelude.{Option}
use Rattle.vt_value.specs.Values.{Row}
use Rattle.vschema.specs.declared.changes.RowChange.{RowChange}
use Rattle.vschema.specs.Database.{Database, rows_of, all_applied}
use Rattle.shard_contents.specs.inner.StoredLogs.{stored_since}
use Rattle.shard_contents.specs.inner.Earlier.{EarlierTable, changes_by, left_of}
use Rattle.shard_contents.proofs.RowsLeft.{forward_as}
use Rattle.shard_contents.proofs.sorted.SortedTable.bring_forward.Goals as goal

pub returns-clause-rows : goal.returns-clause-rows
returns-clause-rows c =
    let log = c.args.stored.now.log in
    let after = c.change_by.new.rows.rows in
    let n = c.self.inside.table in
    let before : List Row = c.self.inside.rows.rows ++ left_of c.self.inside.left in
    subst (λ (x : EarlierTable). (db : Database) → x.table < length db → IsPermutation x.rows (rows_of db x.table)
    → IsPermutation (after ++ left_of c.put_left.new.left) (rows_of (all_applied (changes_by (stored_since log x.stored)) db) x.table)) c.self.view_is
    (λ db there was.
    subst (λ (l : Option (List Row)). IsPermutation (after ++ left_of l) (rows_of (all_applied (changes_by (stored_since log c.self.inside.stored)) db) n))
    (sym c.in_ok-put_left.ensures.none)
    (subst (λ (l : List (List RowChange)). IsPermutation (after ++ left_of Rattle.std.specs.Prelude.None) (rows_of (all_applied (changes_by l) db) n)) c.since-since.ensures
    (forward_as before c.put_left.new.rows.rows after n (changes_by c.since-since.result.now) c.in_ok-put_left.ensures.ok c.in_ok-change_by.ensures.ok db there was)))
