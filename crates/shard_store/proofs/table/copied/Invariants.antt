use Rattle.std.proofs.Common.{◌≡◌, ◌++◌, drop}
use Rattle.shard_store.proofs.table.copied.Given as goal

abbrev pub invariant-loop-ordinal : goal.invariant-loop-ordinal
invariant-loop-ordinal l = l.list ++ drop l.ordinal-index l.ordinals ≡ l.ordinals
