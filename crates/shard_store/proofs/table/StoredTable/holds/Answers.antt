use Rattle.std.proofs.Common.{◌≡◌, Some, sym, subst}
use Rattle.std.specs.List.{list_any}
use Rattle.sql_eval.specs.Database.{same_row}
use Rattle.shard_store.specs.Slots.{rows_in, row_at}
use Rattle.shard_store.specs.Tables.{TableView, key_at}
use Rattle.shard_store.proofs.TwoLists.{held_there}
use Rattle.shard_store.proofs.table.StoredTable.holds.Goals as goal

pub returns-clause-is : goal.returns-clause-is
returns-clause-is c =
    let at : c.args.key.now.values ≡ key_at c.self.inside.ordinals c.args.row.now =
    subst (λ (t : TableView). c.args.key.now.values ≡ key_at t.ordinals c.args.row.now) (sym c.self.view_is) c.requires in
    subst (λ (t : TableView). c.holds.result ≡ list_any (same_row c.args.row.now) (rows_in t.slots)) c.self.view_is
    (held_there c.self.inside.ordinals c.args.key.now c.self.inside.slots.slots c.args.row.now c.holds.result c.self.invariant.keyed c.len-slots.ensures.ascend at
    c.holds.ensures)

pub returns-clause-at : goal.returns-clause-at
returns-clause-at c = λ held.
    subst (λ (t : TableView). row_at t.slots c.args.key.now ≡ Some c.args.row.now) c.self.view_is (c.holds.ensures.0 held)
