use Rattle.std.proofs.Common.{◌≡◌, ◌∙◌, sym, subst, filter}
use Rattle.vt_value.specs.Values.{Row}
use Rattle.shard_store.specs.Slots.{rows_in}
use Rattle.shard_store.specs.Tables.{TableView, key_at}
use Rattle.shard_store.specs.inner.Chosen.{lies_between}
use Rattle.shard_store.specs.inner.Slots.{IsAfterFirst}
use Rattle.shard_store.proofs.Keyed.{inside}
use Rattle.shard_store.proofs.table.StoredTable.rows_inside.Goals as goal

pub rows_between-requires : goal.rows_between-requires
rows_between-requires c = subst (λ (vs : Row). IsAfterFirst c.args.first (record { values = vs })) (sym c.in_ok-values.ensures.ok) c.requires

pub returns : goal.returns
returns c =
    record {
      ok = subst (λ (t : TableView). c.rows_between.result ≡ filter (λ row. lies_between c.args.first c.args.keys (key_at t.ordinals row)) (rows_in t.slots)) c.self.view_is
          (c.rows_between.ensures
          ∙ inside c.args.first c.args.keys (record { values = c.in_ok-values.values }) c.in_ok-below.below c.self.inside.ordinals c.self.inside.slots.slots
          c.in_ok-values.ensures.ok c.in_ok-below.ensures.ok c.self.invariant.keyed);
    }
