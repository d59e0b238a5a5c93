use Rattle.std.proofs.Common.{◌≡◌, ◌++◌, length}
use Rattle.shard_store.proofs.joined.copy_all.Given as goal

abbrev pub invariant-loop-list : goal.invariant-loop-list
invariant-loop-list g l = l.list ++ g.S.PairSource.to_come l.pairs ≡ g.S.PairSource.to_come l.fn.pairs

abbrev pub decreases-loop-list : goal.decreases-loop-list
decreases-loop-list g l = length (g.S.PairSource.to_come l.pairs)
