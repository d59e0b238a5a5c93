use Rattle.std.proofs.Common.{sym, subst, ◌∙◌, List}
use Rattle.std.specs.Prelude.{Contains}
use Rattle.shard_run.specs.declared.ShardRecord.{ShardRecord}
use Rattle.shard.proofs.Retired.{retired, stored_last}
use Rattle.shard.proofs.state.ShardState.is_retired_for.Goals as goal

pub returns : goal.returns
returns g c e =
    let s = c.self.inside in
    let end = c.is_at_end.ensures c.if-not-is_at_end.false in (
      s.targets,
      retired g.W.World.opening g.W.World.limits s.seat s.contents c.args.self.now c.self.invariant.0 c.self.view_is end s.targets c.self.invariant.1,
      subst (λ (l : List ShardRecord). Contains l c.args.target.now) c.as_slice.ensures (c.is_among.ensures e),
      sym c.if-len-stored.false ∙ c.len.ensures
          ∙ stored_last g.W.World.opening g.W.World.limits s.seat s.contents c.args.self.now c.self.invariant.0 c.self.view_is end,
    )
