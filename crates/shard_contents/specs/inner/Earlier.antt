-- Tables in the order of their primary keys, as they were when a shard had stored so many entries.
use Rattle.std.specs.Prelude.{◌≡◌, ℕ, ◌≤◌, true, List, [], Option, Some, None, flat_map, IsPermutation}
use Rattle.std.specs.List.{AllByRecursion}
use Rattle.vt_value.specs.Values.{Row}
use Rattle.vschema.specs.declared.changes.RowChange.{RowChange}
use Rattle.vschema.specs.Database.{Database, SameRows, rows_of, all_applied}
use Rattle.shard_contents.specs.inner.StoredLogs.{StoredLog, count_of, stored_since}

-- a table by its ordinal, the number of entries that were stored then, and the rows that it had
pub record EarlierTable : Type 0 where
  pub table : ℕ
  pub stored : ℕ
  pub rows : List Row

-- the rows that are left, if any are
abbrev pub left_of : Option (List Row) → List Row
left_of None = []
left_of (Some rows) = rows

-- what entries change, in order, by what is kept of each
abbrev pub changes_by : List (List RowChange) → List RowChange
changes_by entries = flat_map (λ changes. changes) entries

-- The table had these rows, in any order, in a database from which the entries stored since lead to the rows that are there now. These entries
-- are kept, and so are those that will be stored.
pub record HadRows (log : StoredLog) (now : Database) (t : EarlierTable) : Type 0 where
  pub is_followed : log.is_followed ≡ true
  pub there : log.first ≤ t.stored
  pub within : t.stored ≤ count_of log
  pub db : Database
  pub since : SameRows (all_applied (changes_by (stored_since log t.stored)) db) now
  pub rows : IsPermutation t.rows (rows_of db t.table)

abbrev pub AllHadRows : StoredLog → Database → List EarlierTable → Type 0
AllHadRows log now tables = AllByRecursion (HadRows log now) tables

-- the rows of a table as they are now
pub record IsCurrentTable (n entries : ℕ) (now : Database) (t : EarlierTable) : Type 0 where
  pub table : t.table ≡ n
  pub stored : t.stored ≡ entries
  pub rows : IsPermutation t.rows (rows_of now n)
