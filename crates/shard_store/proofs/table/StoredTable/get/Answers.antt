use Rattle.std.proofs.Common.{◌≡◌, ◌∙◌, sym, ap, subst, filter, option_to_list, option_copied}
use Rattle.shard_store.specs.Slots.{rows_in}
use Rattle.shard_store.specs.Tables.{TableView, has_key}
use Rattle.shard_store.proofs.Keyed.{found}
use Rattle.shard_store.proofs.table.StoredTable.get.Goals as goal

pub returns : goal.returns
returns c =
    subst (λ (t : TableView). option_to_list (option_copied c.get.result) ≡ filter (has_key t.ordinals c.args.key.now.values) (rows_in t.slots)) c.self.view_is
    (ap option_to_list c.get.ensures
    ∙ sym (found c.self.inside.ordinals c.args.key.now c.self.inside.slots.slots c.self.invariant.keyed c.len-slots.ensures.ascend))
