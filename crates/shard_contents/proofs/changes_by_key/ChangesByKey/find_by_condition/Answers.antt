use Rattle.std.proofs.Common.{◌≡◌, ◌∙◌, true, List, ℕ, Option, IfSome, Vec, ap, subst}
use Rattle.vt_value.specs.Values.{Row, is_true}
use Rattle.shard_store.specs.Conditions.{truth_at, is_kept}
use Rattle.shard_store.specs.Tables.{key_at}
use Rattle.shard_store.specs.declared.key.RowKey.{RowKey}
use Rattle.shard_contents.specs.inner.OwnChanges.{ByKeyView, is_key_among}
use Rattle.shard_contents.proofs.changes_by_key.ChangesByKey.find_by_condition.Goals as goal

pub returns-in_ok-find_each-in-Some-2-clause-ok : goal.returns-in_ok-find_each-in-Some-2-clause-ok
returns-in_ok-find_each-in-Some-2-clause-ok c = λ known row n h within e.
    let it : is_true (truth_at row c.in-Some.condition) ≡ true = subst (λ o. is_kept o row ≡ true) c.in-Some.is h in
    let keys =
    subst (λ o. IfSome o (λ k. (row : Row) → is_true (truth_at row c.in-Some.condition) ≡ true → is_key_among k.items (key_at c.as_slice.result.now row) ≡ true)) c.in-Some-2.is
    c.in_ok-keys.ensures.ok in
    let columns : c.as_slice.result.now ≡ c.args.self.now.columns = c.as_slice.ensures ∙ ap (λ (v : ByKeyView). v.columns) c.self.view_is in
    let among : is_key_among c.as_slice-in-Some-2.result.now (key_at c.args.self.now.columns row) ≡ true =
    ap (λ (ks : List RowKey). is_key_among ks (key_at c.args.self.now.columns row)) c.as_slice-in-Some-2.ensures.value
    ∙ subst (λ (cs : List ℕ). is_key_among c.in-Some-2.keys.items (key_at cs row) ≡ true) columns (keys row it) in
    c.in_ok-find_each-in-Some-2.ensures.ok (key_at c.args.self.now.columns row) n among within e
