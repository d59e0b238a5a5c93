use Rattle.std.proofs.Common.{◌+◌, ◌<◌, ◌≤◌, ◌++◌, List, length, take, sym, ap, subst, IsPermutation}
use Rattle.std.specs.Prelude.{Option}
use Rattle.vt_value.specs.Values.{Row}
use Rattle.vschema.specs.declared.changes.RowChange.{RowChange}
use Rattle.vschema.specs.Database.{Database, rows_of, all_applied}
use Rattle.shard_contents.specs.inner.StoredLogs.{stored_since}
use Rattle.shard_contents.specs.inner.Earlier.{EarlierTable, changes_by, left_of}
use Rattle.shard_contents.proofs.RowsLeft.{forward_as, had_some}
use Rattle.shard_contents.proofs.sorted.SortedTable.bring_some.Goals as goal

pub returns : goal.returns
returns c =
    let log = c.args.stored.now.log in
    let count = c.few_entries-count.result in
    let after = c.change_by.new.rows.rows in
    let n = c.self.inside.table in
    let before : List Row = c.self.inside.rows.rows ++ left_of c.self.inside.left in
    record {
      had = (λ now there had.
          had_some log now c.args.self.now
          (record { table = n; stored = c.self.inside.stored + count; rows = after ++ left_of c.put_left.new.left }) count
          (ap (λ (x : EarlierTable). x.table) c.self.view_is) (ap (λ (x : EarlierTable). x.stored + count) c.self.view_is)
          (subst (λ (x : EarlierTable). count ≤ length (stored_since log x.stored)) c.self.view_is
          (subst (λ (l : List (List RowChange)). count ≤ length l) c.since-since.ensures c.few_entries-count.ensures)) there
          (subst (λ (x : EarlierTable). (db : Database) → x.table < length db → IsPermutation x.rows (rows_of db x.table)
          → IsPermutation (after ++ left_of c.put_left.new.left) (rows_of (all_applied (changes_by (take count (stored_since log x.stored))) db) x.table)) c.self.view_is
          (λ db wide was.
          subst (λ (l : Option (List Row)). IsPermutation (after ++ left_of l) (rows_of (all_applied (changes_by (take count (stored_since log c.self.inside.stored))) db) n))
          (sym c.in_ok-put_left.ensures.none)
          (subst (λ (l : List (List RowChange)). IsPermutation (after ++ left_of Rattle.std.specs.Prelude.None) (rows_of (all_applied (changes_by (take count l)) db) n)) c.since-since.ensures
          (forward_as before c.put_left.new.rows.rows after n (changes_by (take count c.since-since.result.now)) c.in_ok-put_left.ensures.ok c.in_ok-change_by.ensures.ok db wide was)))) had);
    }
