use Rattle.std.proofs.Common.{◌∙◌, ap, sym, subst}
use Rattle.std.specs.List.Sorted.{IsStrictlySortedBy}
use Rattle.std.specs.Map.{keys_of}
use Rattle.shard_store.specs.Keys.{row_key_cmp}
use Rattle.shard_store.specs.Slots.{SlotsView, rows_in, goes_on}
use Rattle.shard_store.specs.inner.Slots.{slots_between}
use Rattle.shard_store.proofs.Prefix.{rows_walked, none_crossed}
use Rattle.shard_store.proofs.slots.Slots.rows_between.Goals as goal

pub returns-then-not-is_before : goal.returns-then-not-is_before
returns-then-not-is_before c =
    sym (ap rows_in (none_crossed c.args.first c.args.below c.args.from.now (sym c.is_before.ensures ∙ c.if-not-is_before.true) c.args.self.now.slots))

pub returns : goal.returns
returns c =
    rows_walked c.args.first c.args.below c.args.from.now c.self.inside.map.entries c.walk_from.result c.walk_from.ensures c.requires
    (subst (λ (v : SlotsView). IsStrictlySortedBy row_key_cmp (keys_of v.slots)) (sym c.self.view_is) c.len-slots.ensures.ascend)
    ∙ ap (λ (v : SlotsView). rows_in (slots_between c.args.from.now (goes_on c.args.first c.args.below) v.slots)) c.self.view_is
