use Rattle.std.proofs.Common.{◌≡◌, ◌∙◌, IsPermutation, List, sym, subst, arith, true≢false}
use Rattle.std.proofs.lemmas.List.Sorted.{IsPermutation-refl}
use Rattle.vt_value.specs.Values.{Row}
use Rattle.sql_eval.specs.Database.{without}
use Rattle.shard_store.specs.Slots.{rows_in}
use Rattle.shard_store.specs.Tables.{TableView, key_at}
use Rattle.shard_store.proofs.Keyed.{not_there, keyed_taken, slot_of_row}
use Rattle.shard_store.proofs.table.StoredTable.remove.Goals as goal

pub invariant_of-self : goal.invariant_of-self
invariant_of-self c =
    let there = slot_of_row c.self.inside.slots.slots c.args.key.now c.args.row.now (c.holds.ensures.0 c.if-holds.true) in
    let n = c.take.ensures.count c.args.row.now there in
    record {
      keyed = keyed_taken c.self.inside.ordinals c.args.key.now c.self.inside.slots.slots c.take.new.self.slots c.take.ensures.slots c.self.invariant.keyed;
      counted = omega (arith, n, c.self.invariant.counted);
    }

pub returns-else-holds-clause-rows : goal.returns-else-holds-clause-rows
returns-else-holds-clause-rows c =
    let at : c.args.key.now.values ≡ key_at c.self.inside.ordinals c.args.row.now =
    subst (λ (t : TableView). c.args.key.now.values ≡ key_at t.ordinals c.args.row.now) (sym c.self.view_is) c.requires.key in
    let none = not_there c.self.inside.ordinals c.args.key.now c.self.inside.slots.slots c.args.row.now c.self.invariant.keyed c.len-slots.ensures.ascend at
    (λ e. true≢false (sym (c.holds.ensures.1 e) ∙ c.if-holds.false)) in
    subst (λ (t : TableView). IsPermutation (rows_in t.slots) (without c.args.row.now (rows_in t.slots))) c.self.view_is
    (subst (λ (l : List Row). IsPermutation (rows_in c.self.inside.slots.slots) l) (sym none) (IsPermutation-refl (rows_in c.self.inside.slots.slots)))
