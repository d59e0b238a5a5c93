use Rattle.std.proofs.Common.{rules, ◌≡◌, ◌↔◌, IsTrue, Option, Some, List, sym, subst}
use Rattle.vt_value.specs.declared.value.Value.{Value as V}
use Rattle.shard_store.specs.Slots.{row_at}
use Rattle.shard_store.proofs.Bags.{held}
use Rattle.shard_store.proofs.slots.Slots.holds.Goals as goal

pub returns-in-Some : goal.returns-in-Some
returns-in-Some c =
    let is : row_at c.args.self.now.slots c.args.key.now ≡ Some c.in-Some.found.now = search rules in
    subst (λ (o : Option (List V)). (IsTrue c.same_row.result) ↔ (o ≡ Some c.args.row.now)) (sym is)
    (held c.in-Some.found.now c.args.row.now c.same_row.result c.same_row.ensures)
