use Rattle.std.proofs.Common.{◌≡◌, ◌∙◌, ◌++◌, ◌∷◌, [], Bool, true, false, List, IsPermutation, sym, ap, subst, rules}
use Rattle.std.specs.List.{list_any}
use Rattle.vt_value.specs.Values.{Row}
use Rattle.sql_eval.specs.Database.{same_row, without}
use Rattle.shard_store.specs.Slots.{rows_in}
use Rattle.shard_store.specs.Stores.{RowsView}
use Rattle.shard_store.specs.Tables.{key_at}
use Rattle.shard_store.proofs.Bags.{decides}
use Rattle.shard_store.proofs.Exchanged.{replaced_there, replaced_beside, replaced_for}
use Rattle.shard_store.proofs.table_rows.TableRows.replace.Goals as goal

pub returns-then-not-same_row-clause-rows : goal.returns-then-not-same_row-clause-rows
returns-then-not-same_row-clause-rows c =
    let s = rows_in c.self.inside.stored.slots in
    let b = c.self.inside.unslotted.items in
    let old = c.args.old.now in
    let put : IsPermutation (c.in-Ok-Some.former ∷ rows_in c.put.new.self.slots) (c.args.new ∷ s) = rw c.in-Ok-Some.field-0-is at c.in-Ok-Some.ensures.rows in
    let at : c.args.key.now.values ≡ key_at c.self.inside.stored.ordinals old = subst (λ (t : RowsView). c.args.key.now.values ≡ key_at t.ordinals old) (sym c.self.view_is) c.requires.old_key in
    let differs : same_row old c.in-Ok-Some.former ≡ false = search rules in
    let any : list_any (same_row old) s ≡ same_row old c.in-Ok-Some.former = rw c.in-Ok-Some.field-0-is at c.in-Ok-Some.ensures.former old at in
    let now : c.push_reserved.new.self.items ≡ without old b ++ c.in-Ok-Some.former ∷ [] = c.push_reserved.ensures.items ∙ ap (λ (l : List Row). l ++ c.in-Ok-Some.former ∷ []) c.remove_row.ensures.rows in
    subst (λ (rows : List Row). IsPermutation (rows_in c.put.new.self.slots ++ c.push_reserved.new.self.items) (without old rows ++ c.args.new ∷ [])) (ap (λ (t : RowsView). t.rows) c.self.view_is)
    (subst (λ (l : List Row). IsPermutation (rows_in c.put.new.self.slots ++ l) (without old (s ++ b) ++ c.args.new ∷ [])) (sym now)
    (replaced_for c.in-Ok-Some.former old c.args.new s b (rows_in c.put.new.self.slots) (any ∙ differs) put))

pub returns-else-not-same_row-clause-rows : goal.returns-else-not-same_row-clause-rows
returns-else-not-same_row-clause-rows c =
    let s = rows_in c.self.inside.stored.slots in
    let b = c.self.inside.unslotted.items in
    let old = c.args.old.now in
    let put : IsPermutation (c.in-Ok-Some.former ∷ rows_in c.put.new.self.slots) (c.args.new ∷ s) = rw c.in-Ok-Some.field-0-is at c.in-Ok-Some.ensures.rows in
    let at : c.args.key.now.values ≡ key_at c.self.inside.stored.ordinals old = subst (λ (t : RowsView). c.args.key.now.values ≡ key_at t.ordinals old) (sym c.self.view_is) c.requires.old_key in
    let same : same_row old c.in-Ok-Some.former ≡ true = search rules in
    let any : list_any (same_row old) s ≡ same_row old c.in-Ok-Some.former = rw c.in-Ok-Some.field-0-is at c.in-Ok-Some.ensures.former old at in
    let is : old ≡ c.in-Ok-Some.former = (decides old c.in-Ok-Some.former).0 same in
    subst (λ (rows : List Row). IsPermutation (rows_in c.put.new.self.slots ++ b) (without old rows ++ c.args.new ∷ [])) (ap (λ (t : RowsView). t.rows) c.self.view_is)
    (replaced_there old c.args.new s b (rows_in c.put.new.self.slots) (any ∙ same) (subst (λ (r : Row). IsPermutation (r ∷ rows_in c.put.new.self.slots) (c.args.new ∷ s)) (sym is) put))

pub returns-in-Ok-None-clause-rows : goal.returns-in-Ok-None-clause-rows
returns-in-Ok-None-clause-rows c =
    let s = rows_in c.self.inside.stored.slots in
    let b = c.self.inside.unslotted.items in
    let old = c.args.old.now in
    let put : IsPermutation (rows_in c.put.new.self.slots) (c.args.new ∷ s) = rw c.in-Ok-None.field-0-is at c.in-Ok-None.ensures.rows in
    let at : c.args.key.now.values ≡ key_at c.self.inside.stored.ordinals old = subst (λ (t : RowsView). c.args.key.now.values ≡ key_at t.ordinals old) (sym c.self.view_is) c.requires.old_key in
    let any : list_any (same_row old) s ≡ false = rw c.in-Ok-None.field-0-is at c.in-Ok-None.ensures.former old at in
    subst (λ (rows : List Row). IsPermutation (rows_in c.put.new.self.slots ++ c.remove_row-in-Ok-None.new.rows.items) (without old rows ++ c.args.new ∷ [])) (ap (λ (t : RowsView). t.rows) c.self.view_is)
    (subst (λ (l : List Row). IsPermutation (rows_in c.put.new.self.slots ++ l) (without old (s ++ b) ++ c.args.new ∷ [])) (sym c.remove_row-in-Ok-None.ensures.rows)
    (replaced_beside old c.args.new s b (rows_in c.put.new.self.slots) any put))
