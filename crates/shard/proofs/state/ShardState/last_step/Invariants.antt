use Rattle.std.proofs.Common.{◌≡◌, ◌≤◌, None, take, length}
use Rattle.shard_contents.proofs.Progress.{after_last}
use Rattle.shard.proofs.state.ShardState.last_step.Given as goal

-- none of those from `end` on is with the source
abbrev pub invariant-loop-end : goal.invariant-loop-end
invariant-loop-end g l = (l.end ≤ length l.steps) × (after_last l.source None (take l.end l.steps) ≡ after_last l.source None l.steps)

abbrev pub decreases-loop-end : goal.decreases-loop-end
decreases-loop-end g l = l.end
