use Rattle.std.proofs.Common.{◌≡◌, ◌∙◌, false, ◌==◌, List, ap, sym, subst}
use Rattle.std.specs.List.{list_any}
use Rattle.vschema.specs.declared.changes.RowChange.{RowChange}
use Rattle.shard_contents.specs.inner.OwnChanges.{ByKeyView, ArePositioned}
use Rattle.shard_contents.proofs.ChangeLists.{none_changed}
use Rattle.shard_contents.proofs.own_changes.OwnChanges.may_change.Goals as goal

pub returns : goal.returns
returns c = λ no.
    let views = c.self.inside.by_key.items in
    none_changed views c.args.self.now c.args.ordinal (subst (λ (l : List RowChange). ArePositioned views l) c.self.view_is c.self.invariant)
    (ap (list_any (λ (v : ByKeyView). v.table == c.args.ordinal)) (sym c.as_slice.ensures.value) ∙ sym c.has_table.ensures ∙ no)
