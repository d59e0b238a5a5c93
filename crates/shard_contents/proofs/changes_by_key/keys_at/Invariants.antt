use Rattle.std.proofs.Common.{◌≡◌, map, take}
use Rattle.shard_store.specs.Tables.{key_at}
use Rattle.shard_contents.proofs.changes_by_key.keys_at.Given as goal

abbrev pub invariant-loop-row : goal.invariant-loop-row
invariant-loop-row l = map (λ k. k.values) l.keys.items ≡ map (key_at l.columns) (take l.row-index l.rows)
