-- Rows of a table that are found by their keys, and the rows that are left without them.
use Rattle.std.specs.Prelude.{ℕ, Bool, not, List, filter}
use Rattle.std.specs.List.{list_any}
use Rattle.std.specs.declared.cmp.Ordering.{Ordering}
use Rattle.std.specs.Cmp.Lexicographic.{slice_cmp}
use Rattle.vt_value.specs.Values.{Row, value_cmp, same_row}
use Rattle.shard_store.specs.Tables.{key_at}
use Rattle.shard_store.specs.declared.removed_rows.LentRow.{LentRow}

-- the row's values in the columns
abbrev pub lent_key : LentRow → Row
lent_key l = key_at l.columns.now l.row.now

-- value by value, a proper prefix before the longer list
abbrev pub lent_cmp : LentRow → LentRow → Ordering
lent_cmp a b = slice_cmp value_cmp (lent_key a) (lent_key b)

-- the ordinals of key columns, and the values of rows there
pub record ColumnKeys : Type 0 where
  pub columns : List ℕ
  pub keys : List Row

-- the row's key is one of these
abbrev pub is_gone : ColumnKeys → Row → Bool
is_gone gone row = list_any (same_row (key_at gone.columns row)) gone.keys

-- the rows whose keys are none of these
abbrev pub left_of : ColumnKeys → List Row → List Row
left_of gone rows = filter (λ r. not (is_gone gone r)) rows
