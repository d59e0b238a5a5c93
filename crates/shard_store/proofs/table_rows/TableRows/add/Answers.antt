use Rattle.std.proofs.Common.{◌≡◌, ◌++◌, ◌∷◌, [], None, Some, List, Option, IsPermutation, option_to_list, ap, subst, rules}
use Rattle.vt_value.specs.Values.{Row}
use Rattle.shard_store.specs.Slots.{rows_in}
use Rattle.shard_store.specs.Stores.{RowsView}
use Rattle.shard_store.proofs.Exchanged.{put_alone, put_for}
use Rattle.shard_store.proofs.table_rows.TableRows.add.Goals as goal

pub returns-in-Ok-None-clause-rows : goal.returns-in-Ok-None-clause-rows
returns-in-Ok-None-clause-rows c =
    let s = rows_in c.self.inside.stored.slots in
    let put : IsPermutation (rows_in c.put.new.self.slots) (c.args.row ∷ s) = rw c.in-Ok-None.field-0-is at c.in-Ok-None.ensures.rows in
    subst (λ (rows : List Row). IsPermutation (rows_in c.put.new.self.slots ++ c.self.inside.unslotted.items) (rows ++ c.args.row ∷ [])) (ap (λ (t : RowsView). t.rows) c.self.view_is)
    (put_alone c.args.row s c.self.inside.unslotted.items (rows_in c.put.new.self.slots) put)

pub returns-in-Ok-Some-clause-rows : goal.returns-in-Ok-Some-clause-rows
returns-in-Ok-Some-clause-rows c =
    let s = rows_in c.self.inside.stored.slots in
    let put : IsPermutation (c.in-Ok-Some.former ∷ rows_in c.put.new.self.slots) (c.args.row ∷ s) = rw c.in-Ok-Some.field-0-is at c.in-Ok-Some.ensures.rows in
    subst (λ (rows : List Row). IsPermutation (rows_in c.put.new.self.slots ++ c.push_reserved.new.self.items) (rows ++ c.args.row ∷ [])) (ap (λ (t : RowsView). t.rows) c.self.view_is)
    (subst (λ (l : List Row). IsPermutation (rows_in c.put.new.self.slots ++ l) ((s ++ c.self.inside.unslotted.items) ++ c.args.row ∷ [])) (Rattle.std.proofs.Common.sym c.push_reserved.ensures.items)
    (put_for c.in-Ok-Some.former c.args.row s c.self.inside.unslotted.items (rows_in c.put.new.self.slots) put))
