use Rattle.std.proofs.Common.{◌∙◌, ◌++◌, List, Bor, filter, ap}
use Rattle.vt_value.specs.Values.{Row}
use Rattle.sql_eval.specs.Conditions.{is_kept}
use Rattle.shard_store.specs.Slots.{rows_in}
use Rattle.shard_store.specs.Stores.{ChangedView}
use Rattle.shard_store.specs.inner.Joined.{rows_lent}
use Rattle.shard_store.specs.inner.Left.{rows_left}
use Rattle.shard_store.specs.inner.Overlays.{left_of}
use Rattle.shard_store.proofs.Overlaid.{kept_left}
use Rattle.shard_store.proofs.overlay.Overlay.chosen.Goals as goal

pub returns : goal.returns
returns c =
    record {
      ok = (let p = is_kept c.args.condition.now in
          ap (λ (others : List (Bor Row)). filter p (left_of c.self.inside.gone (rows_left c.in_ok-slots.slots) ++ rows_lent others)) c.as_slice.ensures.value
          ∙ kept_left p c.self.inside.gone (rows_left c.in_ok-slots.slots) (rows_in c.self.inside.stored.now.slots) (rows_lent c.self.inside.others.items)
          c.in_ok-slots.ensures.ok
          ∙ ap (λ (v : ChangedView). filter p v.rows) c.self.view_is);
    }
