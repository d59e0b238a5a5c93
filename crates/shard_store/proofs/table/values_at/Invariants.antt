use Rattle.std.proofs.Common.{◌≡◌, take}
use Rattle.shard_store.specs.Tables.{key_at}
use Rattle.shard_store.proofs.table.values_at.Given as goal

abbrev pub invariant-loop-ordinal : goal.invariant-loop-ordinal
invariant-loop-ordinal l = l.values ≡ key_at (take l.ordinal-index l.ordinals) l.row
