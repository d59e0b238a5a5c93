use Rattle.std.proofs.Common.{◌≡◌, ◌∙◌, ◌++◌, List, IsPermutation, sym, ap, subst}
use Rattle.std.proofs.lemmas.List.Sorted.{IsPermutation-refl}
use Rattle.vt_value.specs.Values.{Row}
use Rattle.sql_eval.specs.Database.{without}
use Rattle.shard_store.specs.Slots.{rows_in}
use Rattle.shard_store.specs.Stores.{RowsView}
use Rattle.shard_store.proofs.TwoLists.{any_of_perm_left, without_right}
use Rattle.shard_store.proofs.table_rows.TableRows.remove.Goals as goal

pub returns-then-holds-clause-rows : goal.returns-then-holds-clause-rows
returns-then-holds-clause-rows c =
    let s = rows_in c.self.inside.stored.slots in
    let b = c.self.inside.unslotted.items in
    subst (λ (rows : List Row). IsPermutation (rows_in c.remove.new.self.slots ++ b) (without c.args.row.now rows)) (ap (λ (t : RowsView). t.rows) c.self.view_is)
    (any_of_perm_left c.args.row.now s b (rows_in c.remove.new.self.slots) c.remove.ensures.rows (sym c.holds.ensures.is ∙ c.if-holds.true))

pub returns-else-holds-clause-rows : goal.returns-else-holds-clause-rows
returns-else-holds-clause-rows c =
    let s = rows_in c.self.inside.stored.slots in
    let b = c.self.inside.unslotted.items in
    let right : without c.args.row.now (s ++ b) ≡ s ++ without c.args.row.now b = without_right c.args.row.now s b (sym c.holds.ensures.is ∙ c.if-holds.false) in
    subst (λ (rows : List Row). IsPermutation (s ++ c.remove_row.new.rows.items) (without c.args.row.now rows)) (ap (λ (t : RowsView). t.rows) c.self.view_is)
    (subst (IsPermutation (s ++ c.remove_row.new.rows.items)) (ap (λ (z : List Row). s ++ z) c.remove_row.ensures.rows ∙ sym right) (IsPermutation-refl (s ++ c.remove_row.new.rows.items)))
