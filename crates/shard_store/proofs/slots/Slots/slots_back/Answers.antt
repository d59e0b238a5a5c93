use Rattle.std.proofs.Common.{◌∙◌, ap, filter, None}
use Rattle.shard_store.specs.Slots.{SlotsView, goes_on}
use Rattle.shard_store.proofs.BackWalks.{slots_before, slots_all}
use Rattle.shard_store.proofs.slots.Slots.slots_back.Goals as goal

pub returns-in-Some : goal.returns-in-Some
returns-in-Some c =
    c.walk_back_below.ensures ∙ slots_before c.args.below.now c.in-Some.below c.self.inside.map.entries c.in-Some.is
    ∙ ap (λ (v : SlotsView). filter (λ s. goes_on None c.args.below.now s.0) v.slots) c.self.view_is

pub returns-in-None : goal.returns-in-None
returns-in-None c =
    c.walk_back.ensures ∙ slots_all c.args.below.now c.self.inside.map.entries c.in-None.is
    ∙ ap (λ (v : SlotsView). filter (λ s. goes_on None c.args.below.now s.0) v.slots) c.self.view_is
