use Rattle.std.proofs.Common.{◌≡◌, ◌≤◌, None, take, length}
use Rattle.shard_contents.proofs.Progress.{last_copy}
use Rattle.shard.proofs.state.ShardState.last_copy.Given as goal

-- none of those from `end` on is a Copy from the source
abbrev pub invariant-loop-end : goal.invariant-loop-end
invariant-loop-end g l = (l.end ≤ length l.steps) × (last_copy l.source None (take l.end l.steps) ≡ last_copy l.source None l.steps)

abbrev pub decreases-loop-end : goal.decreases-loop-end
decreases-loop-end g l = l.end
