use Rattle.std.proofs.Common.{◌≡◌, take, filter}
use Rattle.shard_run.specs.Copies.{change_is_copied}
use Rattle.shard.proofs.state.ShardState.copied_changes.Given as goal

abbrev pub invariant-loop-change : goal.invariant-loop-change
invariant-loop-change g l =
    l.changes ≡ filter (change_is_copied g.W.World.opening.schema l.self.seen l.self.shard.slot l.taken.source) (take l.change-index l.change-items)
