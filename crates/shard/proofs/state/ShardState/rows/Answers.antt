use Rattle.std.proofs.Common.{◌∙◌}
use Rattle.shard.proofs.HeldRows.{rows_counted, few_counted}
use Rattle.shard.proofs.state.ShardState.rows.Goals as goal

pub row_count-requires : goal.row_count-requires
row_count-requires g c =
    let s = c.self.inside in
    few_counted g.W.World.opening g.W.World.limits s.seat s.contents c.args.self.now c.self.invariant.0 c.self.view_is c.requires.serves

pub returns : goal.returns
returns g c =
    let s = c.self.inside in
    c.row_count.ensures
    ∙ rows_counted g.W.World.opening g.W.World.limits s.seat s.contents c.args.self.now c.self.invariant.0 c.self.view_is c.requires.serves
