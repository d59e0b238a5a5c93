use Rattle.std.proofs.Common.{List, length, sym, subst}
use Rattle.vschema.specs.declared.changes.RowChange.{RowChange}
use Rattle.shard_contents.specs.inner.OwnChanges.{ArePositioned, ArePositionedFrom}
use Rattle.shard_contents.proofs.ChangeLists.{appended_positioned, kept_positioned}
use Rattle.shard_contents.proofs.own_changes.OwnChanges.append.Goals as goal

pub invariant_of-self : goal.invariant_of-self
invariant_of-self c =
    kept_positioned c.self.inside.by_key.items c.add_changes.new.by_key.items c.self.inside.list.items c.add_changes.ensures.kept c.self.invariant

pub invariant_of-self-in_err-append : goal.invariant_of-self-in_err-append
invariant_of-self-in_err-append c =
    subst (λ (l : List RowChange). ArePositioned c.add_changes.new.by_key.items l) (sym c.in_err-append.ensures.items)
    (kept_positioned c.self.inside.by_key.items c.add_changes.new.by_key.items c.self.inside.list.items c.add_changes.ensures.kept c.self.invariant)

pub invariant_of-self-2 : goal.invariant_of-self-2
invariant_of-self-2 c =
    let more = c.add_changes.new.by_key.items in
    subst (λ (l : List RowChange). ArePositioned more l) (sym c.in_ok-append.ensures.items)
    (appended_positioned c.self.inside.by_key.items more c.self.inside.list.items c.args.more.now.items c.add_changes.ensures.kept c.self.invariant
    (subst (λ (l : List RowChange). ArePositionedFrom (length l) more c.args.more.now.items) c.as_slice-first.ensures.value
    (subst (λ (l : List RowChange). ArePositionedFrom (length c.as_slice-first.result.now) more l) c.as_slice.ensures.value c.in_ok-add_changes.ensures.ok)))
