use Rattle.std.proofs.Common.{◌≡◌, None, is_some, true, sym, subst, rules, arith}
use Rattle.std.specs.List.{list_any}
use Rattle.sql_eval.specs.Database.{same_row}
use Rattle.shard_store.specs.Slots.{rows_in}
use Rattle.shard_store.specs.Tables.{TableView, key_at}
use Rattle.shard_store.specs.inner.Slots.{is_row}
use Rattle.shard_store.proofs.Keyed.{keyed_added, rows_fit}
use Rattle.shard_store.proofs.Exchanged.{there_by_slot, one_more, as_many}
use Rattle.shard_store.proofs.table.StoredTable.put.Goals as goal

pub overflow_add-self : goal.overflow_add-self
overflow_add-self c =
    let fit = rows_fit c.self.inside.slots.slots in
    omega (arith, fit, c.self.invariant.counted, c.len-before.ensures.len, c.len-before.ensures.small)

pub invariant_of-self-then-is_none : goal.invariant_of-self-then-is_none
invariant_of-self-then-is_none c =
    let none : c.in-Ok.former ≡ None = search rules in
    record {
      keyed = keyed_added c.self.inside.ordinals c.args.key.now c.args.row c.self.inside.slots.slots c.put.new.self.slots c.in-Ok.ensures.slots
          (subst (λ (t : TableView). c.args.key.now.values ≡ key_at t.ordinals c.args.row) (sym c.self.view_is) c.requires) c.self.invariant.keyed;
      counted = one_more c.in-Ok.former c.args.row (rows_in c.self.inside.slots.slots) (rows_in c.put.new.self.slots) c.self.inside.count none c.in-Ok.ensures.rows c.self.invariant.counted;
    }

pub invariant_of-self-else-is_none : goal.invariant_of-self-else-is_none
invariant_of-self-else-is_none c =
    let some : is_some c.in-Ok.former ≡ true = search rules in
    record {
      keyed = keyed_added c.self.inside.ordinals c.args.key.now c.args.row c.self.inside.slots.slots c.put.new.self.slots c.in-Ok.ensures.slots
          (subst (λ (t : TableView). c.args.key.now.values ≡ key_at t.ordinals c.args.row) (sym c.self.view_is) c.requires) c.self.invariant.keyed;
      counted = as_many c.in-Ok.former c.args.row (rows_in c.self.inside.slots.slots) (rows_in c.put.new.self.slots) c.self.inside.count some c.in-Ok.ensures.rows c.self.invariant.counted;
    }

pub returns-clause-former : goal.returns-clause-former
returns-clause-former c = λ r at.
    let own : c.args.key.now.values ≡ key_at c.self.inside.ordinals r = subst (λ (t : TableView). c.args.key.now.values ≡ key_at t.ordinals r) (sym c.self.view_is) at in
    subst (λ (t : TableView). list_any (same_row r) (rows_in t.slots) ≡ is_row r c.in-Ok.former) c.self.view_is
    (there_by_slot c.self.inside.ordinals c.args.key.now c.self.inside.slots.slots r c.in-Ok.former c.self.invariant.keyed c.len-before.ensures.ascend own c.in-Ok.ensures.former)
