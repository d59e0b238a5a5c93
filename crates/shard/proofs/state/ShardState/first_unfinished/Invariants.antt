use Rattle.shard.proofs.NextTables.{SoFar}
use Rattle.shard.proofs.state.ShardState.first_unfinished.Given as goal

-- the first of the tables so far
abbrev pub invariant-loop-n : goal.invariant-loop-n
invariant-loop-n g l = SoFar g.W.World.opening l.self.seen l.self.shard l.source l.n l.found
