use Rattle.std.proofs.Common.{ap, ◌∙◌}
use Rattle.shard_contents.specs.Entries.{ShardView}
use Rattle.shard_contents.proofs.Views.{viewed_same}
use Rattle.shard.proofs.state.ShardState.retire.Goals as goal

pub returns-clause-same : goal.returns-clause-same
returns-clause-same g c =
    let a = c.append_event-event.ensures in
    viewed_same _ _ c.self.inside.contents c.append_event-event.new.contents _ c.self.view_is a.shard a.stored a.rows
    ∙ ap (λ (x : ShardView). record x { seen = c.append_event-event.new.seat.seen }) c.look_twice.ensures.same
