use Rattle.shard.proofs.Retired.{retired}
use Rattle.shard.proofs.state.ShardState.is_retired.Goals as goal

pub returns : goal.returns
returns g c e =
    let s = c.self.inside in (
      s.targets,
      retired g.W.World.opening g.W.World.limits s.seat s.contents c.args.self.now c.self.invariant.0 c.self.view_is (c.is_at_end.ensures e) s.targets
          c.self.invariant.1,
    )
