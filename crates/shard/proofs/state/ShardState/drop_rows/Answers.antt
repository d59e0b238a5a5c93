use Rattle.shard.proofs.Views.{dropped_view}
use Rattle.shard.proofs.state.ShardState.drop_rows.Goals as goal

pub returns : goal.returns
returns g c = dropped_view _ c.self.inside.contents c.empty.new.contents _ c.self.view_is c.empty.ensures.shard c.empty.ensures.stored c.empty.ensures.rows
