use Rattle.std.proofs.Common.{◌≡◌, true, take}
use Rattle.vt_value.specs.Values.{Row, is_true}
use Rattle.shard_store.specs.Conditions.{truth_at}
use Rattle.shard_store.specs.Tables.{key_at}
use Rattle.shard_contents.proofs.changes_by_key.fixed_row.Given as goal

-- the values of the columns so far, in each row at which the condition is true
abbrev pub invariant-loop-column : goal.invariant-loop-column
invariant-loop-column l = (row : Row) → is_true (truth_at row l.condition) ≡ true → l.values ≡ key_at (take l.column-index l.columns) row
