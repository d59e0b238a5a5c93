use Rattle.std.proofs.Common.{◌∙◌, not, option_to_list, option_copied, Option, Bor, ap, sym}
use Rattle.vt_value.specs.Values.{Row}
use Rattle.shard_store.specs.Slots.{rows_in}
use Rattle.shard_store.specs.Tables.{has_key}
use Rattle.shard_store.proofs.Overlaid.{slot_left, slot_none}
use Rattle.shard_store.proofs.overlay.has_slot.Goals as goal

pub returns-in-Some : goal.returns-in-Some
returns-in-Some c =
    ap not c.has.ensures
    ∙ slot_left (has_key c.args.stored.now.ordinals c.args.key.now.values) c.args.gone.now (rows_in c.args.stored.now.slots) c.in-Some.row.now
    (sym c.get.ensures ∙ ap (λ (o : Option (Bor Row)). option_to_list (option_copied o)) c.in-Some.is)

pub returns-in-None : goal.returns-in-None
returns-in-None c =
    slot_none (has_key c.args.stored.now.ordinals c.args.key.now.values) c.args.gone.now (rows_in c.args.stored.now.slots)
    (sym c.get.ensures ∙ ap (λ (o : Option (Bor Row)). option_to_list (option_copied o)) c.in-None.is)
