use Rattle.std.proofs.Common.{◌∙◌}
use Rattle.shard.proofs.Retired.{stored_told}
use Rattle.shard.proofs.state.ShardState.stored.Goals as goal

pub returns : goal.returns
returns g c =
    c.len.ensures
    ∙ stored_told g.W.World.opening g.W.World.limits c.self.inside.seat c.self.inside.contents c.args.self.now c.self.invariant.0 c.self.view_is c.requires.lives
