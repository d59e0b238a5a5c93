use Rattle.std.proofs.Common.{◌∙◌, ap}
use Rattle.shard_store.specs.Slots.{SlotsView}
use Rattle.shard_store.proofs.slots.Slots.all.Goals as goal

pub returns : goal.returns
returns c = c.walk.ensures ∙ ap (λ (v : SlotsView). v.slots) c.self.view_is
