use Rattle.std.proofs.Common.{◌≡◌, ◌∙◌, false, sym, subst, option_copied}
use Rattle.std.specs.List.{list_any}
use Rattle.shard_store.specs.Slots.{rows_in}
use Rattle.shard_store.specs.Tables.{TableView, has_key}
use Rattle.shard_store.proofs.Keyed.{any_found, copied_some}
use Rattle.shard_store.proofs.Exchanged.{none_without_slot}
use Rattle.shard_store.proofs.table.StoredTable.contains.Goals as goal

pub returns-then-has : goal.returns-then-has
returns-then-has c =
    let any = any_found (has_key c.args.self.now.ordinals c.args.key.now.values) (rows_in c.args.self.now.slots) (option_copied c.get.result) (sym c.get.ensures) in
    c.is_some.ensures ∙ sym (any ∙ copied_some c.get.result)

pub returns-else-has : goal.returns-else-has
returns-else-has c =
    let none = none_without_slot c.self.inside.ordinals c.args.key.now c.self.inside.slots.slots c.self.invariant.keyed c.len-slots.ensures.ascend (sym c.has.ensures ∙ c.if-has.false) in
    c.if-has.false ∙ sym (subst (λ (t : TableView). list_any (has_key t.ordinals c.args.key.now.values) (rows_in t.slots) ≡ false) c.self.view_is none)
