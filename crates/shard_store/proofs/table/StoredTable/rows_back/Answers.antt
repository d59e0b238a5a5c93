use Rattle.std.proofs.Common.{◌≡◌, ◌∙◌, ap, None, subst, filter, reverse}
use Rattle.shard_store.specs.Slots.{rows_in}
use Rattle.shard_store.specs.Tables.{TableView, key_at}
use Rattle.shard_store.specs.inner.Chosen.{lies_between}
use Rattle.shard_store.proofs.Keyed.{inside}
use Rattle.shard_store.proofs.table.StoredTable.rows_back.Goals as goal

pub returns : goal.returns
returns c =
    record {
      ok = subst (λ (t : TableView). c.rows_back.result ≡ reverse (filter (λ row. lies_between None c.args.keys (key_at t.ordinals row)) (rows_in t.slots))) c.self.view_is
          (c.rows_back.ensures
          ∙ ap reverse (inside None c.args.keys (record { values = c.in_ok-values.values }) c.in_ok-below.below c.self.inside.ordinals c.self.inside.slots.slots
          c.in_ok-values.ensures.ok c.in_ok-below.ensures.ok c.self.invariant.keyed));
    }
