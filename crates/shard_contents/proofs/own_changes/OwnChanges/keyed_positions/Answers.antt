use Rattle.std.proofs.Common.{◌≡◌, ◌∙◌, ◌≤◌, true, List, length, ap, sym, subst, arith}
use Rattle.std.specs.List.{list_any}
use Rattle.vt_value.specs.Values.{Row}
use Rattle.vschema.specs.declared.changes.RowChange.{RowChange}
use Rattle.vschema.specs.Schema.{key_of}
use Rattle.vschema.specs.Database.{same_row}
use Rattle.shard_store.specs.Conditions.{is_kept}
use Rattle.shard_contents.specs.inner.OwnChanges.{ByKeyView, is_positioned, ArePositioned}
use Rattle.shard_contents.proofs.ChangeLists.{positions_found}
use Rattle.shard_contents.proofs.own_changes.OwnChanges.keyed_positions.Goals as goal

pub returns-clause-ok : goal.returns-clause-ok
returns-clause-ok c = λ n d e t.
    let views = c.self.inside.by_key.items in
    let long : length c.as_slice-most.result.now ≡ length c.args.self.now = ap length c.as_slice-most.ensures.value ∙ ap length c.self.view_is in
    let found =
    positions_found (λ (row : Row). list_any (λ (m : Row). same_row (key_of c.args.table.now m) (key_of c.args.table.now row)) c.args.new.now) c.args.ordinal views c.args.self.now c.find_keyed.new.found.items
    (subst (λ (l : List RowChange). ArePositioned views l) c.self.view_is c.self.invariant)
    (λ row m g within f.
    c.in_ok-find_keyed.ensures.ok c.if-not-branch.false row m g (omega (arith, within, long))
    (ap (list_any (is_positioned m c.args.ordinal row)) c.as_slice-by_key.ensures.value ∙ f)) n d e t in
    c.in_ok-sorted.ensures.same n ∙ found
