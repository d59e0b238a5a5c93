use Rattle.std.proofs.Common.{◌∙◌, ◌++◌, List, ap}
use Rattle.vt_value.specs.Values.{Row}
use Rattle.shard_store.specs.Slots.{rows_in}
use Rattle.shard_store.specs.Stores.{RowsView}
use Rattle.shard_store.specs.inner.Joined.{rows_lent}
use Rattle.shard_store.proofs.Overlaid.{none_gone}
use Rattle.shard_store.proofs.overlay.Overlay.of.Goals as goal

pub returns : goal.returns
returns c =
    record {
      rows = (let slots = rows_in c.table.inside.stored.slots in
          ap (λ (z : List Row). z ++ rows_lent c.in_ok-others.others.items) (none_gone c.new-2.result c.new-2.ensures.keys slots)
          ∙ ap (λ (z : List Row). slots ++ z) (c.in_ok-others.ensures.ok ∙ c.new.ensures ∙ c.as_slice.ensures.value)
          ∙ ap (λ (v : RowsView). v.rows) c.table.view_is);
    }
