use Rattle.std.proofs.Common.{◌∙◌, ap, sym, subst, IsSome, Option}
use Rattle.std.proofs.lemmas.Result.{IfOk-weaker}
use Rattle.vt_value.specs.Values.{Row}
use Rattle.shard_store.specs.Slots.{SlotsView, slot_at, with_row}
use Rattle.shard_store.proofs.Exchanged.{exchanged_rows}
use Rattle.shard_store.proofs.slots.Slots.exchange.Goals as goal

pub returns-clause-still : goal.returns-clause-still
returns-clause-still c = λ k h. c.exchange.ensures.kept k (subst (λ (v : SlotsView). IsSome (slot_at v.ready k)) (sym c.self.view_is) h)

pub returns-clause-rows : goal.returns-clause-rows
returns-clause-rows c =
    exchanged_rows c.exchange.result c.args.key.now c.self.inside.map.entries c.args.self.now.slots c.exchange.new.self.entries c.args.row c.of.result c.of.ensures
    (ap (λ (v : SlotsView). v.slots) c.self.view_is) c.exchange.ensures.former c.exchange.ensures.entries
