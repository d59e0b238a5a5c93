use Rattle.std.proofs.Common.{◌≡◌, take}
use Rattle.shard_store.specs.Tables.{key_at}
use Rattle.shard_contents.proofs.changes_by_key.values_at.Given as goal

abbrev pub invariant-loop-column : goal.invariant-loop-column
invariant-loop-column l = l.values ≡ key_at (take l.column-index l.columns) l.row
