use Rattle.std.proofs.Common.{◌≡◌, true, List, sym, subst, ap, ◌∙◌}
use Rattle.std.specs.List.{list_any}
use Rattle.std.specs.Map.{keys_of}
use Rattle.vt_value.specs.Values.{Row}
use Rattle.shard_store.specs.Tables.{key_at}
use Rattle.shard_contents.specs.inner.OwnChanges.{ByKeyView, has_position}
use Rattle.shard_contents.proofs.KeyPositions.{Entry, is_it, still_there, now_there}
use Rattle.shard_contents.proofs.changes_by_key.ChangesByKey.add.Goals as goal

pub returns-clause-kept : goal.returns-clause-kept
returns-clause-kept c = λ key n h.
    subst (λ (es : List Entry). list_any (is_it key n) (keys_of es) ≡ true) (sym c.in_ok-insert.ensures.entries)
    (still_there key n (c.in_ok-key.key, c.args.position) c.self.inside.positions.entries
    (subst (λ (v : ByKeyView). has_position v key n ≡ true) (sym c.self.view_is) h))

pub returns-clause-ok : goal.returns-clause-ok
returns-clause-ok c =
    let same : c.in_ok-key.key.values ≡ key_at c.args.self.now.columns c.args.row.now =
    c.in_ok-key.ensures.ok ∙ ap (λ cs. key_at cs c.args.row.now) (c.as_slice.ensures ∙ ap (λ (v : ByKeyView). v.columns) c.self.view_is) in
    subst (λ (k : Row). list_any (is_it k c.args.position) (keys_of c.insert.new.self.entries) ≡ true) same
    (subst (λ (es : List Entry). list_any (is_it c.in_ok-key.key.values c.args.position) (keys_of es) ≡ true) (sym c.in_ok-insert.ensures.entries)
    (now_there (c.in_ok-key.key, c.args.position) c.self.inside.positions.entries))
