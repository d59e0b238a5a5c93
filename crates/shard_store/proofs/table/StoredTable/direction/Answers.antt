use Rattle.std.proofs.Common.{◌≡◌, ℕ, List, sym, subst, filter}
use Rattle.std.specs.Prelude.{IfSome, IsSorted}
use Rattle.std.specs.Cmp.Lexicographic.{slice_cmp}
use Rattle.std.specs.declared.cmp.Ordering.TheVariants.{Less}
use Rattle.vt_value.specs.Values.{value_cmp}
use Rattle.sql_tree.specs.declared.Key.{Key}
use Rattle.sql_eval.specs.Orders.{row_cmp}
use Rattle.sql_eval.specs.Conditions.{is_kept}
use Rattle.key_intervals.specs.inner.Walks.{walked}
use Rattle.shard_store.specs.Slots.{rows_in}
use Rattle.shard_store.specs.Tables.{TableView, key_at}
use Rattle.shard_store.proofs.BackWalks.{some_weaker, walk_sorted}
use Rattle.shard_store.proofs.table.StoredTable.direction.Goals as goal

pub returns : goal.returns
returns c =
    let q = c.args.query.now in
    let k = is_kept q.filter in
    let slots = c.self.inside.slots.slots in
    subst (λ (t : TableView). IfSome c.walk_direction.result (λ d. IsSorted (row_cmp q.order_by) (walked d (filter k (rows_in t.slots))))) c.self.view_is
    (some_weaker c.walk_direction.result _ _
    (λ d follows.
    subst (λ (keys : List (Key ℕ)). IsSorted (row_cmp keys) (walked d (filter k (rows_in slots)))) c.as_slice-2.ensures
    (walk_sorted d c.as_slice-2.result.now k c.self.inside.ordinals
    (λ a b ka kb less.
    follows a b ka kb (subst (λ (columns : List ℕ). slice_cmp value_cmp (key_at columns a) (key_at columns b) ≡ Less) (sym c.as_slice.ensures) less))
    slots c.self.invariant.keyed c.len-slots.ensures.ascend))
    c.walk_direction.ensures)
