use Rattle.std.proofs.Common.{◌≡◌, true, List, ℕ, sym, subst}
use Rattle.vschema.specs.Checks.{has_number}
use Rattle.shard_contents.specs.inner.OwnChanges.{ByKeyView, has_position}
use Rattle.shard_contents.proofs.KeyPositions.{positions_of, forward, found_between, more_found}
use Rattle.shard_contents.proofs.changes_by_key.ChangesByKey.find.Goals as goal

pub range-requires : goal.range-requires
range-requires c = forward c.args.key.now c.in_ok-clone.field-0 c.in_ok-clone-2.field-0 c.args.most c.in_ok-clone.ensures.cases c.in_ok-clone-2.ensures.cases

pub returns-clause-ok : goal.returns-clause-ok
returns-clause-ok c = λ n within h.
    subst (λ (l : List ℕ). has_number l n ≡ true) (sym c.in_ok-collect.ensures.ok)
    (more_found c.args.found.now.items (positions_of c.range.result) n
    (found_between c.args.key.now c.in_ok-clone.field-0 c.in_ok-clone-2.field-0 c.args.most n c.self.inside.positions.entries c.range.result c.in_ok-clone.ensures.cases
    c.in_ok-clone-2.ensures.cases (c.range.ensures.between tt) within
    (subst (λ (v : ByKeyView). has_position v c.args.key.now.values n ≡ true) (sym c.self.view_is) h)))
