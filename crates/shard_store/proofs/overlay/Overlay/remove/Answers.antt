use Rattle.std.proofs.Common.{◌∙◌, ◌++◌, List, ap, sym}
use Rattle.vt_value.specs.Values.{Row}
use Rattle.sql_eval.specs.Database.{without}
use Rattle.shard_store.specs.Slots.{rows_in}
use Rattle.shard_store.specs.Stores.{ChangedView}
use Rattle.shard_store.specs.inner.Joined.{rows_lent}
use Rattle.shard_store.specs.inner.Overlays.{left_of}
use Rattle.shard_store.proofs.TwoLists.{without_left, without_right}
use Rattle.shard_store.proofs.overlay.Overlay.remove.Goals as goal

pub returns-then-is_left : goal.returns-then-is_left
returns-then-is_left c =
    record {
      ok = (let others = rows_lent c.self.inside.others.items in
          let s = left_of c.self.inside.gone (rows_in c.self.inside.stored.now.slots) in
          ap (λ (z : List Row). z ++ others) (c.is_left.ensures.once c.if-is_left.true c.add.new.self c.in_ok-add.ensures.columns c.in_ok-add.ensures.ok)
          ∙ sym (without_left c.args.row.now s others (sym c.is_left.ensures.is ∙ c.if-is_left.true))
          ∙ ap (λ (v : ChangedView). without c.args.row.now v.rows) c.self.view_is);
    }

pub returns : goal.returns
returns c =
    record {
      ok = (let s = left_of c.self.inside.gone (rows_in c.self.inside.stored.now.slots) in
          ap (λ (z : List Row). s ++ z) c.remove_first.ensures
          ∙ sym (without_right c.args.row.now s (rows_lent c.self.inside.others.items) (sym c.is_left.ensures.is ∙ c.if-is_left.false))
          ∙ ap (λ (v : ChangedView). without c.args.row.now v.rows) c.self.view_is);
    }

pub invariant_of-self : goal.invariant_of-self
invariant_of-self c = c.add.ensures.columns ∙ c.self.invariant
