use Rattle.std.proofs.Common.{◌≡◌, ◌∙◌, true, List, ℕ, ap, sym, subst}
use Rattle.std.specs.List.{list_any}
use Rattle.vt_value.specs.Values.{Row}
use Rattle.vschema.specs.Database.{same_row}
use Rattle.shard_store.specs.Tables.{key_at}
use Rattle.shard_store.specs.declared.key.RowKey.{RowKey}
use Rattle.shard_contents.specs.inner.OwnChanges.{ByKeyView, is_key_among}
use Rattle.shard_contents.proofs.KeyPositions.{among_rows}
use Rattle.shard_contents.proofs.changes_by_key.ChangesByKey.find_by_rows.Goals as goal

pub returns-clause-ok : goal.returns-clause-ok
returns-clause-ok c = λ known row n h within e.
    let columns = c.as_slice-columns.result.now in
    let own : c.args.self.now.columns ≡ columns = sym (c.as_slice-columns.ensures ∙ ap (λ (v : ByKeyView). v.columns) c.self.view_is) in
    let primary : columns ≡ c.args.table.now.primary_key = c.are_primary_key.ensures c.if-not-are_primary_key.false in
    let at : list_any (λ (r : Row). same_row (key_at columns r) (key_at columns row)) c.args.new.now ≡ true =
    subst (λ (cs : List ℕ). list_any (λ (r : Row). same_row (key_at cs r) (key_at cs row)) c.args.new.now ≡ true) (sym primary) h in
    let among : is_key_among c.as_slice.result.now (key_at c.args.self.now.columns row) ≡ true =
    ap (λ (ks : List RowKey). is_key_among ks (key_at c.args.self.now.columns row)) c.as_slice.ensures.value
    ∙ ap (λ (cs : List ℕ). is_key_among c.in_ok-keys.keys.items (key_at cs row)) own
    ∙ among_rows c.in_ok-keys.keys.items columns c.args.new.now (key_at columns row) c.in_ok-keys.ensures.ok ∙ at in
    c.in_ok-find_each.ensures.ok (key_at c.args.self.now.columns row) n among within e
