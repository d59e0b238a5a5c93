use Rattle.std.proofs.Common.{◌≡◌, ◌∙◌, ◌≤◌, length, subst, sym, filter}
use Rattle.shard_store.specs.Slots.{rows_in}
use Rattle.shard_store.specs.Tables.{TableView, begins_with}
use Rattle.shard_store.proofs.Keyed.{begun}
use Rattle.shard_store.proofs.table.StoredTable.rows_with.Goals as goal

pub returns : goal.returns
returns c =
    record {
      ok = (
          let some : 1 ≤ length c.self.inside.ordinals = subst (λ (t : TableView). 1 ≤ length t.ordinals) (sym c.self.view_is) c.requires in
          subst (λ (t : TableView). c.in_ok-rows.rows ≡ filter (begins_with t.ordinals c.args.value.now) (rows_in t.slots)) c.self.view_is
          (c.in_ok-rows.ensures.ok ∙ begun c.self.inside.ordinals c.args.value.now c.self.inside.slots.slots some c.self.invariant.keyed)
          );
    }
