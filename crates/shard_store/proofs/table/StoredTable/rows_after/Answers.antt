use Rattle.std.proofs.Common.{◌≡◌, ◌∙◌, Option, Some, ap, filter, subst, sym}
use Rattle.std.specs.Prelude.{IfOk, option_copied}
use Rattle.vt_value.specs.Values.{Row}
use Rattle.std.specs.List.Sorted.{IsStrictlySortedBy}
use Rattle.std.specs.Map.{keys_of}
use Rattle.std.proofs.lemmas.Result.{IfOk-weaker}
use Rattle.shard_store.specs.Keys.{row_key_cmp}
use Rattle.shard_store.specs.Slots.{rows_in}
use Rattle.shard_store.specs.Tables.{TableView}
use Rattle.shard_store.specs.RowsAfter.{comes_after, IsInOrder}
use Rattle.shard_store.proofs.Keyed.{Keyed}
use Rattle.shard_store.proofs.WalkedRows.{walk_rows, walk_order, rows_order}
use Rattle.shard_store.proofs.table.StoredTable.rows_after.Goals as goal

pub returns-in-Some-clause-rows : goal.returns-in-Some-clause-rows
returns-in-Some-clause-rows c =
    let t = c.args.table.now in
    let v = c.args.self.now in
    let keyed = subst (λ (x : TableView). Keyed x.ordinals x.slots) c.self.view_is c.self.invariant.keyed in
    let one : option_copied c.args.last ≡ Some c.in-Some.last.now = ap option_copied c.in-Some.is in
    subst (λ (o : Option Row). IfOk c.rows_from_row.result (λ rows. filter (comes_after t o) rows ≡ filter (comes_after t o) (rows_in v.slots))) (sym one)
    (IfOk-weaker c.rows_from_row.result _ _
    (λ rows is. ap (filter (comes_after t (Some c.in-Some.last.now))) is
    ∙ walk_rows t c.in-Some.last.now v.ordinals v.slots (c.requires c.if-in_order.true) keyed)
    c.rows_from_row.ensures.ok)

pub returns-in-Some-clause-order : goal.returns-in-Some-clause-order
returns-in-Some-clause-order c =
    let t = c.args.table.now in
    let v = c.args.self.now in
    let keyed = subst (λ (x : TableView). Keyed x.ordinals x.slots) c.self.view_is c.self.invariant.keyed in
    let up = subst (λ (x : TableView). IsStrictlySortedBy row_key_cmp (keys_of x.slots)) c.self.view_is c.len-slots.ensures.ascend in
    IfOk-weaker c.rows_from_row.result _ _ (λ rows is by. subst (IsInOrder t) (sym is) (walk_order t _ v.ordinals v.slots (c.requires by) keyed up)) c.rows_from_row.ensures.ok

pub returns-in_default-clause-order : goal.returns-in_default-clause-order
returns-in_default-clause-order c by =
    let t = c.args.table.now in
    let v = c.args.self.now in
    let keyed = subst (λ (x : TableView). Keyed x.ordinals x.slots) c.self.view_is c.self.invariant.keyed in
    let up = subst (λ (x : TableView). IsStrictlySortedBy row_key_cmp (keys_of x.slots)) c.self.view_is c.len-slots.ensures.ascend in
    subst (IsInOrder t) (sym (c.rows.ensures ∙ ap (λ (x : TableView). rows_in x.slots) c.self.view_is)) (rows_order t v.ordinals v.slots (c.requires by) keyed up)
