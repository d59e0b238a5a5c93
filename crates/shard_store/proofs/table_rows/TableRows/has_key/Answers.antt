use Rattle.std.proofs.Common.{◌≡◌, ◌∙◌, ◌||◌, Bool, sym, ap, subst}
use Rattle.std.specs.List.{list_any}
use Rattle.std.proofs.lemmas.List.Folds.{list_any-append}
use Rattle.vt_value.specs.Values.{Row}
use Rattle.sql_eval.specs.Schema.{key_of}
use Rattle.sql_eval.specs.Database.{same_row}
use Rattle.shard_store.specs.Slots.{rows_in}
use Rattle.shard_store.specs.Tables.{key_at}
use Rattle.shard_store.specs.Stores.{RowsView}
use Rattle.shard_store.proofs.KeptRows.{keys_same}
use Rattle.shard_store.proofs.table_rows.TableRows.has_key.Goals.{then-contains, else-contains}
use Rattle.shard_store.proofs.table_rows.TableRows.has_key.Goals as goal

pub returns : goal.returns
returns c = record {
  ok = (let t = c.args.table.now in
      let f : Row → Bool = λ r. same_row (key_of t c.args.row.now) (key_of t r) in
      let xs = rows_in c.self.inside.stored.slots in
      let ys = c.self.inside.unslotted.items in
      let whole : list_any f c.args.self.now.rows ≡ (list_any f xs || list_any f ys) = ap (λ (v : RowsView). list_any f v.rows) (sym c.self.view_is) ∙ list_any-append f xs ys in
      let tell = c.requires c.if-not-keyed.false in
      let told : (a b : Row) → same_row (key_at c.self.inside.stored.ordinals a) (key_at c.self.inside.stored.ordinals b) ≡ same_row (key_of t a) (key_of t b) =
      λ a b. subst (λ (v : RowsView). same_row (key_at v.ordinals a) (key_at v.ordinals b) ≡ same_row (key_of t a) (key_of t b)) (sym c.self.view_is) (tell a b) in
      let here : c.contains.result ≡ list_any f xs =
      c.contains.ensures ∙ keys_same c.self.inside.stored.ordinals t c.args.row.now c.in_ok-key.key.values c.in_ok-key.ensures.ok told xs in
      elim c.if-contains.branch [
        | then-contains w ↦ w.result-is ∙ w.if-contains.true ∙ sym (whole ∙ ap (λ b. b || list_any f ys) (sym here ∙ w.if-contains.true))
        | else-contains w ↦
            w.result-is ∙ w.any_has_key-else-contains.ensures ∙ ap (list_any f) (c.new-unslotted.ensures ∙ c.as_slice.ensures.value)
            ∙ sym (whole ∙ ap (λ b. b || list_any f ys) (sym here ∙ w.if-contains.false))
      ]);
}
